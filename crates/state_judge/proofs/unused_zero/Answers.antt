-- `unused_zero` meets its contract: all are 0 when they are together.
use Prim.Native.Nat.{ℕ}
use native.Mathlib.Omega.{arith}
use mathlib.Core.Path.{refl, ap, ◌∙◌}
use lib.Dec.{eqb}
use Rattle.state_layout.specs.Layout.{unused_at, unused_length}
use Rattle.state_judge.proofs.Union.{part_together, unused_together}
use Rattle.state_judge.proofs.unused_zero.Goals as goal

pub returns : goal.returns
returns c =
    let b = c.args.b.now in
    ap (λ (x : ℕ). eqb x 0) (c.together.ensures ∙ part_together b unused_at unused_length unused_length refl (omega arith)) ∙ unused_together b unused_length

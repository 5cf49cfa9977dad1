-- `levels_are` meets its contract: all are 0 or 1 when they are together.
use Prim.Native.Nat.{ℕ, ◌+◌, ◌-◌}
use native.Mathlib.Omega.{arith}
use mathlib.Core.Path.{ap, ◌∙◌}
use lib.Dec.{leb}
use Rattle.limits.specs.Limits.{most_level, cells}
use Rattle.state_judge.proofs.Union.{part_together, levels_together}
use Rattle.state_judge.proofs.levels_are.Goals as goal

pub returns : goal.returns
returns c =
    let a = c.args in
    ap (λ (x : ℕ). leb x most_level) (c.together.ensures ∙ part_together a.b.now a.at (a.at + cells - a.at) cells (omega arith) c.requires) ∙ levels_together _ _

-- `state_decode::variables_in` meets its contract: a table filled from the front.
use Prim.Native.Nat.{ℕ, ◌+◌, ◌*◌}
use native.Mathlib.Omega.{arith}
use mathlib.Core.Path.{refl, ◌∙◌}
use lib.ListN.{length-set}
use Rattle.limits.specs.Limits.{cells}
use Rattle.state_bytes.specs.Bytes.{signed_at}
use Rattle.state_bytes.proofs.Tables.{none, more, all}
use mir.Syntax.{w32}
use Rattle.num_arith.proofs.Range.{got}
use Rattle.state_layout.specs.Codecs.{variables_in}
use Rattle.state_layout.specs.Layout.{variables_at}
use Rattle.state_decode.proofs.variables_in.Goals as goal

pub loop-k-init : goal.loop-k-init
loop-k-init c = (refl, none _)

pub loop-k-preserved : goal.loop-k-preserved
loop-k-preserved c =
    let l = c.loop-k in
    let n = l.invariant.0 in (
      length-set l.r l.k _ ∙ n,
      more l.r l.k (λ (j : ℕ). signed_at c.args.b.now (variables_at + 4 * j)) _ (omega arith) l.invariant.1 (got w32 c.signed.type_inv c.signed.ensures),
    )

pub returns : goal.returns
unfolding variables_in
returns c =
    let l = c.loop-k in
    all l.r l.k cells (λ (j : ℕ). signed_at c.args.b.now (variables_at + 4 * j)) (omega arith) (omega arith) l.invariant.0 l.invariant.1

-- `state_decode::stack_in` meets its contract: a table filled from the front.
use Prim.Native.Nat.{ℕ, ◌+◌, ◌*◌}
use native.Mathlib.Omega.{arith}
use mathlib.Core.Path.{refl, ◌∙◌}
use lib.ListN.{length-set}
use Rattle.limits.specs.Limits.{most_depth}
use Rattle.state_bytes.specs.Bytes.{le_number_at}
use Rattle.state_bytes.proofs.Tables.{none, more, all}
use Rattle.state_layout.specs.Codecs.{words_in}
use Rattle.state_decode.proofs.stack_in.Goals as goal

pub loop-i-init : goal.loop-i-init
loop-i-init c = (refl, none _)

pub loop-i-preserved : goal.loop-i-preserved
loop-i-preserved c =
    let l = c.loop-i in
    let a = c.args in
    let n = l.invariant.0 in (
      length-set l.r l.i _ ∙ n,
      more l.r l.i (λ (j : ℕ). le_number_at 2 a.b.now (a.at + 2 * j)) _ (omega arith) l.invariant.1 c.word.ensures,
    )

pub returns : goal.returns
unfolding words_in
returns c =
    let l = c.loop-i in
    let a = c.args in
    all l.r l.i most_depth (λ (j : ℕ). le_number_at 2 a.b.now (a.at + 2 * j)) (omega arith) (omega arith) l.invariant.0 l.invariant.1

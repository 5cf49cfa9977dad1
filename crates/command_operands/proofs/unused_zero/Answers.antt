-- `unused_zero` meets its contract: the bytes tested are those behind the used ones, to the end of the block.
use mathlib.Core.Path.{ap, ◌∙◌}
use Prim.Native.Nat.{ℕ, ◌+◌}
use native.Mathlib.Omega.{arith}
use lib.ListN.{drop}
use Rattle.command_operands.specs.Operands.{all_zero, unused_zero}
use Rattle.command_operands.proofs.Unused.{rest_zero}
use Rattle.command_operands.proofs.unused_zero.Goals as goal

pub returns : goal.returns
unfolding unused_zero
returns c =
    let b = c.args.block in
    c.all_zero.ensures ∙ rest_zero b (1 + c.used_bytes.result) _ (omega arith) ∙ ap (λ (n : ℕ). all_zero (drop (1 + n) b)) c.used_bytes.ensures

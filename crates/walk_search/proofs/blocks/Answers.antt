-- `blocks` meets its contract: the verdict decides whether the blocks are handed back.
use mathlib.Core.Path.{refl}
use Rattle.walk.specs.Verdict.{accepted_blocks}
use Rattle.walk_search.proofs.blocks.Goals as goal

pub returns-then-is_accepted-clause-result_value : goal.returns-then-is_accepted-clause-result_value
unfolding accepted_blocks
returns-then-is_accepted-clause-result_value c = rw (← c.judge.ensures.value, ← c.is_accepted.ensures, c.if-is_accepted.true) c.block_part.ensures

pub returns-else-is_accepted-clause-result_value : goal.returns-else-is_accepted-clause-result_value
unfolding accepted_blocks
returns-else-is_accepted-clause-result_value c = rw (← c.judge.ensures.value, ← c.is_accepted.ensures, c.if-is_accepted.false) refl

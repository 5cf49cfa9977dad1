-- `stack_is` meets its contract: after i turns the first i entries are judged.
use mathlib.Core.Path.{◌≡◌}
use Rattle.state_layout.specs.IsState.{all_of, entry_is}
use Rattle.state_judge.proofs.stack_is.Given as goal

abbrev pub invariant-loop-i : goal.invariant-loop-i
invariant-loop-i l = l.pass ≡ all_of (entry_is l.count l.depth) l.stack l.i

-- `together` meets its contract: after k turns the first k bytes are taken.
use mathlib.Core.Path.{◌≡◌}
use Rattle.state_judge.specs.Together.{together}
use Rattle.state_judge.proofs.together.Given as goal

abbrev pub invariant-loop-x : goal.invariant-loop-x
invariant-loop-x l = l.all ≡ together l.bytes 0 l.x-index

-- After k turns k inputs were set high.
use Rattle.std.proofs.Common.{◌≡◌}
use Rattle.manual.proofs.Ran.{highs}
use Rattle.manual.proofs.levels.Given as goal

abbrev pub invariant-loop-pin : goal.invariant-loop-pin
invariant-loop-pin l = l.levels ≡ highs l.entry 5 l.pin-index

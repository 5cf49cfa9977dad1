-- So many conditions are passed.
use Rattle.std.proofs.Common.{◌≡◌}
use Rattle.vectors.proofs.show_conditions.Given as goal

abbrev pub invariant-loop-condition : goal.invariant-loop-condition
invariant-loop-condition g l = l.n ≡ l.condition

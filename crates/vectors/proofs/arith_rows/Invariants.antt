-- So many pairs are passed.
use Rattle.std.proofs.Common.{◌≡◌}
use Rattle.vectors.proofs.arith_rows.Given as goal

abbrev pub invariant-loop-a : goal.invariant-loop-a
invariant-loop-a g l = l.n ≡ l.a-index

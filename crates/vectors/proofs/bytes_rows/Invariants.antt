-- So many numbers are passed.
use Rattle.std.proofs.Common.{◌≡◌}
use Rattle.vectors.proofs.bytes_rows.Given as goal

abbrev pub invariant-loop-v : goal.invariant-loop-v
invariant-loop-v g l = l.n ≡ l.v-index

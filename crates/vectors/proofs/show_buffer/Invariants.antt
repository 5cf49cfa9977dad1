-- So many bytes are passed.
use Rattle.std.proofs.Common.{◌≡◌}
use Rattle.vectors.proofs.show_buffer.Given as goal

abbrev pub invariant-loop-byte : goal.invariant-loop-byte
invariant-loop-byte g l = l.n ≡ l.byte-index

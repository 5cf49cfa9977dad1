-- The sum is that of the bytes passed.
use Rattle.std.proofs.Common.{◌≡◌, ◌<◌}
use Rattle.images.specs.Part.{check_of}
use Rattle.images.proofs.summed.Given as goal

abbrev pub invariant-loop-byte : goal.invariant-loop-byte
invariant-loop-byte l = record { small : l.check < 65521; summed : l.check ≡ check_of l.bytes l.byte-index }

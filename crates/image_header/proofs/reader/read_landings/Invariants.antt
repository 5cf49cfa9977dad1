-- `image_header::reader::read_landings` meets its contract. The loop's invariant: the scan is that of the header's rows and of the landing blocks passed.
use mathlib.Core.Path.{◌≡◌}
use Prim.Native.Nat.{◌+◌}
use lib.ListN.{length}
use Rattle.limits.specs.Limits.{most_landings}
use Rattle.image_header.specs.Rows.{header_count}
use Rattle.image_header.specs.Scan.{from_image, scan, beside}
use Rattle.image_header.proofs.reader.read_landings.Given as goal

abbrev pub invariant-loop-i : goal.invariant-loop-i
invariant-loop-i l =
    (beside l.t l.landings ≡ scan (length l.image) (from_image l.image) (header_count + l.i)) × (length l.landings ≡ most_landings)

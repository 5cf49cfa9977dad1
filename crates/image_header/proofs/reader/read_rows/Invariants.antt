-- `image_header::reader::read_rows` meets its contract. The loop's invariant: beside no landing block, the scan is that of the rows passed.
use mathlib.Core.Path.{◌≡◌}
use lib.ListN.{length}
use Rattle.image_header.specs.Scan.{from_image, scan, beside, no_landings}
use Rattle.image_header.proofs.reader.read_rows.Given as goal

abbrev pub invariant-loop-row : goal.invariant-loop-row
invariant-loop-row l = beside l.s no_landings ≡ scan (length l.image) (from_image l.image) l.row

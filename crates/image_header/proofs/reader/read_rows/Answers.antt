-- `image_header::reader::read_rows` meets its contract. The loop's invariant: beside no landing block, the scan is that of the rows passed.
use mathlib.Core.Path.{refl, ap}
use native.Mathlib.Omega.{arith}
use lib.ListN.{length}
use Rattle.image_header.specs.Scan.{from_image, scan, beside, no_landings}
use Rattle.image_header.specs.declared.reader.Scan.{Scan}
use Rattle.image_header.proofs.Scanning.{scan_long, next_row}
use Rattle.image_header.proofs.Beside.{header_long, header_goes_on}
use Rattle.image_header.proofs.reader.read_rows.Goals as goal

pub loop-row-init : goal.loop-row-init
unfolding scan
loop-row-init c = ap (λ (s : Scan). beside s no_landings) c.begin-s.ensures

pub loop-row-preserved : goal.loop-row-preserved
loop-row-preserved c =
    let l = c.loop-row in
    let image = c.args.image.now in
    let n = length image in
    let long = header_long (scan n (from_image image) l.row) (scan_long n (from_image image) l.row) l.s no_landings refl l.invariant in
    next_row n (from_image image) l.row (beside l.s no_landings) (beside c.read_row-s.result no_landings) l.invariant
    (header_goes_on n (from_image image) l.row l.s c.read_row-s.result no_landings (omega arith) long c.read_row-s.ensures)

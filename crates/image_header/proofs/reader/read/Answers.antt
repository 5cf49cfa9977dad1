-- `image_header::reader::read` meets its contract: the numbers take at most two bytes each, and fit their widths, as `close` asks.
use mathlib.Core.Path.{ap, ◌∙◌}
use native.Mathlib.Omega.{arith}
use lib.ListN.{length}
use Rattle.image_header.specs.Rows.{row_count}
use Rattle.image_header.specs.Scan.{Scanned, from_image, read_result, header_of, landings_of, beside}
use Rattle.image_header.proofs.Scanning.{at_most, image_near}
use Rattle.image_header.proofs.Beside.{numbers_narrow, closed_alone, landings_are}
use Rattle.image_header.proofs.reader.read.Goals as goal

pub read_landings-t-requires : goal.read_landings-t-requires
read_landings-t-requires c =
    let e = c.clear.ensures in
    record {
      landings_value = ap (beside c.read_rows-s.result) e ∙ c.read_rows-s.ensures;
      landings_len = ap length e;
    }

pub close-requires : goal.close-requires
close-requires c =
    let image = c.args.image.now in
    let t = c.read_landings-t in
    let e = ap (λ (s : Scanned). s.at) t.ensures.landings_after in
    let m = at_most (length image) (from_image image) (image_near image) row_count in
    record {
      room = omega arith;
      narrow = numbers_narrow (length image) (from_image image) t.result t.new.landings t.ensures.length_kept t.ensures.landings_after;
    }

pub returns : goal.returns
unfolding header_of landings_of
returns c =
    let image = c.args.image.now in
    let t = c.read_landings-t in
    record {
      value = c.close.ensures ∙ ap read_result (closed_alone (length image) (from_image image) t.result t.new.landings t.ensures.length_kept t.ensures.landings_after (length image));
      landings_after = landings_are (length image) (from_image image) t.result t.new.landings t.ensures.length_kept t.ensures.landings_after;
    }

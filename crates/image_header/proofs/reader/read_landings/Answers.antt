-- `image_header::reader::read_landings` meets its contract. The loop's invariant: the scan is that of the header's rows and of the landing blocks passed.
use mathlib.Core.Path.{sym, ◌∙◌}
use native.Mathlib.Omega.{arith}
use lib.ListN.{length}
use Rattle.image_result.specs.ImageResult.{done}
use Rattle.image_header.specs.Scan.{from_image}
use Rattle.image_header.proofs.Rows.{landing_listed}
use Rattle.image_header.proofs.Beside.{landings_over, landing_goes_on}
use Rattle.image_header.proofs.reader.read_landings.Goals as goal

pub returns-then-not-is_next : goal.returns-then-not-is_next
returns-then-not-is_next c =
    let image = c.args.image.now in
    let l = c.loop-i in
    let d = c.is_next in
    let no = sym d.ensures ∙ c.if-not-is_next.true in
    record {
      landings_after = landings_over (length image) (from_image image) l.i l.t l.landings l.invariant.1 l.invariant.0 (omega arith) no;
      length_kept = l.invariant.1;
    }

pub read_landing-t-requires : goal.read_landing-t-requires
read_landing-t-requires c =
    let l = c.loop-i in
    let d = c.is_next in
    let yes = sym d.ensures ∙ c.if-not-is_next.false in
    let u = landing_listed l.i l.t.numbers (done l.t.result) yes in
    record {
      index_in_range = (omega arith, omega arith);
      landings_len = l.invariant.1;
    }

pub loop-i-preserved : goal.loop-i-preserved
loop-i-preserved c =
    let image = c.args.image.now in
    let l = c.loop-i in
    let d = c.is_next in
    let yes = sym d.ensures ∙ c.if-not-is_next.false in (
      landing_goes_on (length image) (from_image image) l.i l.t l.landings l.invariant.1 l.invariant.0 yes c.read_landing-t.result
          c.read_landing-t.new.landings
          c.read_landing-t.ensures.landings_after,
      c.read_landing-t.ensures.length_kept,
    )

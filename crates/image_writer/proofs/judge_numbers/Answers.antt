-- `image_writer::judge_numbers` meets its contract. The loop's invariant: the scan is that of the numbers passed.
use mathlib.Core.Path.{◌≡◌, ap}
use mathlib.Core.List.{◌++◌}
use native.Mathlib.Omega.{arith}
use lib.ListN.{length}
use Rattle.image_header.specs.Rows.{row_count}
use Rattle.image_header.specs.Scan.{Scanned, scan, beside, no_landings}
use Rattle.image_header.specs.declared.reader.Scan.{Scan}
use Rattle.image_header.proofs.Scanning.{at_most, next_row}
use Rattle.image_writer.specs.Writer.{words_of, given_numbers}
use Rattle.image_writer.proofs.HeaderBytes.{given_near}
use Rattle.image_writer.proofs.judge_numbers.Goals as goal

pub loop-row-init : goal.loop-row-init
unfolding scan
loop-row-init c =
    let e = c.requires in
    (rw e (ap (λ (s : Scan). beside s no_landings) c.begin-s.ensures), ap length e)

pub judge_number-s-requires : goal.judge_number-s-requires
judge_number-s-requires c =
    let l = c.loop-row in
    let ns = c.args.numbers ++ words_of c.args.bytes.now in
    let m = at_most 0 (given_numbers ns) (given_near ns) l.row in
    let e = ap (λ (s : Scanned). s.at) l.invariant.0 in
    record {
      room = (omega arith, omega arith);
      landings_len = l.invariant.1;
    }

pub loop-row-preserved : goal.loop-row-preserved
loop-row-preserved c =
    let l = c.loop-row in
    let ns = c.args.numbers ++ words_of c.args.bytes.now in
    let j = c.judge_number-s in
    let t = beside j.result j.new.landings in
    (next_row 0 (given_numbers ns) l.row (beside l.s l.landings) t l.invariant.0 j.ensures.landings_after, j.ensures.length_kept)

pub returns : goal.returns
returns c =
    let l = c.loop-row in
    let h : l.row ≡ row_count = omega arith in
    record {
      landings_after = rw h at l.invariant.0;
      landings_len = l.invariant.1;
    }

-- `image_writer::judge` meets its contract: another format is refused before any number is judged.
use Rattle.std.specs.Prelude.{Err}
use borrow.Author.Rules.{rules}
use mathlib.Core.Path.{◌≡◌, sym, ap, ◌∙◌}
use mathlib.Core.List.{◌++◌}
use native.Mathlib.Omega.{arith}
use lib.ListN.{length}
use Rattle.image_result.specs.declared.ImageFault.TheVariants.{OutOfRange}
use Rattle.image_header.specs.Rows.{header_count}
use Rattle.image_header.specs.Scan.{stopped_scan, beside, no_landings}
use Rattle.image_header.specs.declared.reader.Scan.{Scan}
use Rattle.image_header.proofs.Beside.{front_number}
use Rattle.image_writer.specs.Writer.{words_of}
use Rattle.image_writer.proofs.Judged.{other_format, own_format, stand_beside}
use Rattle.image_writer.proofs.judge.Goals as goal

pub returns-then-numbers-format : goal.returns-then-numbers-format
returns-then-numbers-format c =
    let a = c.args in
    let words = words_of a.bytes.now in
    let seven : length a.numbers ≡ header_count = search rules in
    let e = front_number words a.numbers seven 0 (omega arith) in
    let p = c.requires in
    record {
      landings_after = ap (beside c.stop.result) p
          ∙ ap (λ (s : Scan). beside s no_landings) (c.stop.ensures ∙ ap (stopped_scan (Err (OutOfRange 0))) c.begin.ensures)
          ∙ sym (other_format a.format (a.numbers ++ words) (λ q. c.if-numbers-format.true (sym e ∙ q)));
      landings_len = ap length p;
    }

pub returns : goal.returns
returns c =
    let a = c.args in
    let words = words_of a.bytes.now in
    let seven : length a.numbers ≡ header_count = search rules in
    let e = front_number words a.numbers seven 0 (omega arith) in
    let j = c.judge_numbers-s in
    let l = j.new.landings in
    let r = c.landings_stand in
    record {
      landings_after = own_format a.format (a.numbers ++ words) (beside j.result l) (beside r.result l) (e ∙ c.if-numbers-format.false) j.ensures.landings_after
          (stand_beside a.numbers words l seven j.result r.result r.ensures);
      landings_len = j.ensures.landings_len;
    }

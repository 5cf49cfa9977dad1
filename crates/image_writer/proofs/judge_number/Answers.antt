-- `image_writer::judge_number` meets its contract: a number that does not come next leaves the scan as it is, else it is judged where it would stand.
use borrow.Author.Rules.{rules}
use mathlib.Core.Path.{◌≡◌, sym, ap, ◌∙◌, subst}
use mathlib.Core.Bool.{true, false, ◌&&◌}
use mathlib.Core.List.{◌++◌}
use Prim.Native.Nat.{ℕ, ◌+◌, ◌-◌}
use native.Mathlib.Omega.{arith}
use lib.ListN.{length, get_or}
use Rattle.image_number.specs.Number.{number_bytes}
use Rattle.image_number.proofs.Numbers.{size_most}
use Rattle.image_result.specs.ImageResult.{done}
use Rattle.image_header.specs.Rows.{header_count, stands}
use Rattle.image_header.specs.Scan.{Scanned, judged, beside, alone}
use Rattle.image_header.proofs.Rows.{landing_listed}
use Rattle.image_header.proofs.Scanning.{stays}
use Rattle.image_header.proofs.Beside.{with, judged_with, comes_next, front_number, behind_number}
use Rattle.image_writer.specs.Writer.{words_of, given_numbers}
use Rattle.image_writer.proofs.HeaderBytes.{given_goes_on}
use Rattle.image_writer.proofs.judge_number.Goals as goal

pub returns-then-not-is_next : goal.returns-then-not-is_next
returns-then-not-is_next c =
    let a = c.args in
    let s = a.s in
    let l = a.landings.now in
    let long : length s.numbers ≡ header_count = search rules in
    let d = c.is_next in
    let no = comes_next s long l a.row false (sym d.ensures ∙ c.if-not-is_next.true) in
    record {
      landings_after = sym (stays 0 (given_numbers (a.numbers ++ words_of a.bytes.now)) a.row (beside s l) no);
      length_kept = c.requires.landings_len;
    }

pub overflow_add-s : goal.overflow_add-s
overflow_add-s c =
    omega (arith, c.size.ensures, size_most (get_or c.args.numbers c.args.row 0), c.requires.room)

pub returns-then-row-lt-HEADER_ROWS : goal.returns-then-row-lt-HEADER_ROWS
returns-then-row-lt-HEADER_ROWS c =
    let a = c.args in
    let s = a.s in
    let l = a.landings.now in
    let words = words_of a.bytes.now in
    let long : length s.numbers ≡ header_count = search rules in
    let seven : length a.numbers ≡ header_count = search rules in
    let d = c.is_next in
    let comes = comes_next s long l a.row true (sym d.ensures ∙ c.if-not-is_next.false) in
    let u = c.if-row-lt-HEADER_ROWS.true in
    let z = c.size in
    let v = get_or a.numbers a.row 0 in
    record {
      landings_after = given_goes_on (a.numbers ++ words) a.row (beside s l) (beside c.judge.result l) v (s.at + z.result) comes
          (sym (front_number words a.numbers seven a.row u))
          (ap (λ (m : ℕ). s.at + m) z.ensures)
          (ap (λ (t : Scanned). with t l) c.judge.ensures ∙ sym (judged_with l a.row u (alone s) long v (s.at + z.result)));
      length_kept = c.requires.landings_len;
    }

pub word_at-block-requires : goal.word_at-block-requires
word_at-block-requires c = let p = c.requires in omega arith

pub overflow_add-s-2 : goal.overflow_add-s-2
overflow_add-s-2 c =
    omega (arith, c.size-2.ensures, size_most c.from.result, c.requires.room)

pub judge_landing-requires : goal.judge_landing-requires
judge_landing-requires c =
    let a = c.args in
    let s = a.s in
    let d = c.is_next in
    let p = c.requires in
    let b = c.if-row-lt-HEADER_ROWS.false in
    let q : a.row ≡ header_count + (a.row - header_count) = omega arith in
    let y = sym d.ensures ∙ c.if-not-is_next.false in
    let n = landing_listed (a.row - header_count) s.numbers (done s.result)
    (subst (λ (k : ℕ). (done s.result && stands k s.numbers) ≡ true) q y) in
    record {
      index_in_range = (omega arith, omega arith);
      landings_len = p.landings_len;
    }

pub returns : goal.returns
returns c =
    let a = c.args in
    let s = a.s in
    let l = a.landings.now in
    let words = words_of a.bytes.now in
    let long : length s.numbers ≡ header_count = search rules in
    let seven : length a.numbers ≡ header_count = search rules in
    let d = c.is_next in
    let comes = comes_next s long l a.row true
    (sym d.ensures ∙ c.if-not-is_next.false) in
    let b = c.if-row-lt-HEADER_ROWS.false in
    let q : header_count + (a.row - header_count) ≡ a.row = omega arith in
    let w = c.word_at-block in
    let z = c.size-2 in
    let j = c.judge_landing in
    let e : w.result ≡ get_or (a.numbers ++ words) a.row 0 = w.ensures ∙ sym (behind_number a.numbers seven words (a.row - header_count))
    ∙ ap (λ (k : ℕ). get_or (a.numbers ++ words) k 0) q in
    let m : s.at + z.result ≡ s.at + length (number_bytes w.result) =
    ap (λ (n : ℕ). s.at + n) (z.ensures ∙ ap (λ (v : ℕ). length (number_bytes v)) c.from.ensures) in
    record {
      landings_after = given_goes_on (a.numbers ++ words) a.row (beside s l) (beside j.result j.new.landings) w.result (s.at + z.result) comes e m
          (subst (λ (k : ℕ). beside j.result j.new.landings ≡ judged k (beside s l) w.result (s.at + z.result)) q j.ensures.landings_after);
      length_kept = j.ensures.length_kept;
    }

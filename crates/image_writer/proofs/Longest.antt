-- No image that the writer puts is longer than the longest, room for that one is room enough for every write, and it can be written.
use Rattle.std.specs.Prelude.{Ok}
use mathlib.Core.Path.{◌≡◌, refl, sym, ap, ◌∙◌}
use mathlib.Core.Bool.{Bool, true, false}
use mathlib.Core.List.{List, [], ◌∷◌}
use Prim.Native.Nat.{ℕ, zero, suc, ◌+◌, ◌-◌, ◌*◌, ◌≤◌}
use native.Mathlib.Omega.{arith}
use lib.Dec.{ltb}
use lib.ListN.{length, get_or, take}
use borrow.Author.Tests.{ltb-false}
use Rattle.limits.specs.Limits.{most_blocks, most_landings, block_length}
use Rattle.drive.specs.Types as types
use Rattle.image_result.specs.ImageResult.{done}
use Rattle.image_number.specs.Number.{number_bytes}
use Rattle.image_header.specs.Rows as rows
use Rattle.image_header.specs.Rows.{format2, landing_count_row, row_count}
use Rattle.image_header.specs.Scan.{Scanned, judged, taken, more, scan, scanned_header, first_refusal}
use Rattle.image_header.specs.Longest.{greatest_header, size_up_to, longest_image}
use Rattle.image_header.proofs.Longest.{Sized, one_byte, two_bytes, image_end}
use Rattle.image_writer.specs.Writer.{words_of, word_bytes, with_landings, given_numbers, room_result, written_with, judged_write, landings_stand, judged_for, written}
use Rattle.image_writer.specs.declared.Written.{Written}
use Rattle.image_writer.proofs.Judged.{judged_numbers, Passed, judged_passed, judged_write_is, written_fine}

-- the bytes of a number are no more than one that is as great or greater may take
size_of : (at v most : ℕ) → v ≤ most → (t : Bool) → ltb v 128 ≡ t → at + length (number_bytes v) ≤ at + size_up_to most
unfolding number_bytes
size_of at v most h true e = rw e (one_byte at most)
size_of at v most h false e = let l = ltb-false v 128 e in rw e (two_bytes at v most l h)

given_sized : (numbers : List ℕ) (row at : ℕ) → Sized at (given_numbers numbers row at)
given_sized numbers row at most h = size_of at (get_or numbers row 0) most h (ltb (get_or numbers row 0) 128) refl

-- numbers that the writer's judging let pass, with as many blocks as they say
ends : (format : ℕ) (numbers : List ℕ) → Passed format numbers → done (scan 0 (given_numbers numbers) row_count).result ≡ true
    → (scan 0 (given_numbers numbers) row_count).at + block_length * (scanned_header (scan 0 (given_numbers numbers) row_count)).count ≤ longest_image
ends format numbers p ok = image_end 0 (given_numbers numbers) (given_sized numbers) (judged_numbers numbers ok p.stand)

pub longest_write : (format : ℕ) (numbers : List ℕ) (b room : ℕ) → done (written format numbers b room).result ≡ true
    → (written format numbers b room).length ≤ longest_image
longest_write format numbers b room ok =
    let f = written_fine format numbers b room ok in
    let e = ends format numbers f.passed f.fits.judged in
    let l = f.fits.long in
    let w = ap (λ (r : Written). r.length) f.is in
    omega arith

-- with so much room 14 does not come to numbers that pass, with as many blocks as they say
pub room_enough : (format : ℕ) (numbers : List ℕ) (b room : ℕ) → longest_image ≤ room → done (judged_for format numbers).result ≡ true
    → b ≡ block_length * (scanned_header (judged_for format numbers)).count → done (written format numbers b room).result ≡ true
unfolding written
room_enough format numbers b room r ok e =
    let p = judged_passed format numbers ok in
    let l = ends format numbers p (sym (ap (λ (s : Scanned). done s.result) p.is) ∙ ok) in
    let q = ap (λ (s : Scanned). s.at + block_length * (scanned_header s).count) p.is in
    ap (λ (w : Written). done w.result) (judged_write_is (judged_for format numbers) b room ok e (omega arith))

-- header numbers at their greatest, the last 64 blocks as landing blocks, and the most blocks
abbrev pub last_blocks : ℕ → List ℕ
last_blocks zero = []
last_blocks (suc n) = (most_blocks - suc n) ∷ last_blocks n

abbrev pub longest_numbers : List ℕ
longest_numbers = with_landings (take landing_count_row greatest_header) (word_bytes (last_blocks most_landings))

pub longest_written : written format2 longest_numbers (block_length * most_blocks) longest_image ≡ record { result = Ok tt; length = longest_image }
unfolding
    types.takes rows.stands rows.header_checked rows.checked judged
    number_bytes taken more scan first_refusal room_result written_with judged_write landings_stand judged_for written words_of word_bytes
longest_written = refl

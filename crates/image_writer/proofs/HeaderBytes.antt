-- The bytes of an image's numbers, and the buffer that gets them.
use mathlib.Core.Path.{◌≡◌, refl, sym, ap, ◌∙◌}
use mathlib.Core.Bool.{true, ◌&&◌}
use Prim.Native.Nat.{ℕ, zero, suc, ◌+◌, ◌-◌, ◌<◌, ◌≤◌}
use native.Mathlib.Omega.{arith}
use native.Mathlib.Numerals.{add-one}
use mathlib.Core.List.{List, ◌++◌}
use lib.ListN.{length, get_or, length-append}
use lib.Seq.{sets}
use Rattle.image_number.specs.Number.{number_bytes}
use Rattle.image_result.specs.ImageResult.{done}
use Rattle.image_header.specs.Rows.{row_count, stands}
use Rattle.image_header.specs.Scan.{Scanned, judged, taken, more}
use Rattle.image_header.proofs.Scanning.{Near, takes}
use Rattle.image_number.proofs.Numbers.{size_most}
use Rattle.image_writer.specs.Writer.{given_numbers, bytes_at, first_numbers, image_of, overlaid}
use Rattle.image_writer.proofs.Stores.{next_run, from_front}

module _ (numbers : List ℕ) where
  pub one_more : (k : ℕ) → length (first_numbers numbers (suc k)) ≡ length (first_numbers numbers k) + length (bytes_at numbers k)
  unfolding first_numbers
  one_more k = length-append (first_numbers numbers k) (bytes_at numbers k)

  grows : (d k : ℕ) → length (first_numbers numbers k) ≤ length (first_numbers numbers (d + k))
  grows zero k = let e : 0 + k ≡ k = omega arith in rw e (omega arith)
  grows (suc d) k =
      let e : suc d + k ≡ suc (d + k) = omega arith in
      rw e (let g = grows d k in let m = one_more (d + k) in omega arith)

  -- number k has room where all have
  pub room : (k n : ℕ) → k < n → length (first_numbers numbers k) + length (bytes_at numbers k) ≤ length (first_numbers numbers n)
  room k n h =
      let g = grows (n - suc k) (suc k) in
      let e : n - suc k + suc k ≡ n = omega arith in
      let m = one_more k in
      let q : length (first_numbers numbers (suc k)) ≤ length (first_numbers numbers n) = rw e at g in
      omega arith

  -- one number more is stored
  pub stored : (out l m : List ℕ) (at k : ℕ) → at ≡ length (first_numbers numbers k) → l ≡ sets out 0 (first_numbers numbers k)
      → m ≡ sets l at (bytes_at numbers k) → m ≡ sets out 0 (first_numbers numbers (k + 1))
  unfolding first_numbers
  stored out l m at k a e q =
      q ∙ ap (λ (x : List ℕ). sets x at (bytes_at numbers k)) e
      ∙ next_run out (first_numbers numbers k) (bytes_at numbers k) at a
      ∙ ap (λ (j : ℕ). sets out 0 (first_numbers numbers j)) (sym (add-one k))

  -- the whole image: the numbers, then the blocks
  pub whole : (out l blocks : List ℕ) (at : ℕ) → at ≡ length (first_numbers numbers row_count) → l ≡ sets out 0 (first_numbers numbers row_count)
      → length (image_of numbers blocks) ≤ length out → sets l at blocks ≡ overlaid (image_of numbers blocks) out
  unfolding image_of overlaid
  whole out l blocks at a e h =
      ap (λ (x : List ℕ). sets x at blocks) e ∙ next_run out (first_numbers numbers row_count) blocks at a
      ∙ from_front out (first_numbers numbers row_count ++ blocks) h

  pub image_length : (blocks : List ℕ) → length (image_of numbers blocks) ≡ length (first_numbers numbers row_count) + length blocks
  unfolding image_of
  image_length blocks = length-append (first_numbers numbers row_count) blocks

-- the numbers that are given are near too
pub given_near : (numbers : List ℕ) (row at : ℕ) → Near at (given_numbers numbers row at)
unfolding number_bytes
given_near numbers row at = let e = size_most (get_or numbers row 0) in omega arith

-- a number that is given and comes next, judged where it would stand
pub given_goes_on : (numbers : List ℕ) (row : ℕ) (s t : Scanned) (v next : ℕ) → (done s.result && stands row s.numbers) ≡ true
    → v ≡ get_or numbers row 0 → next ≡ s.at + length (number_bytes v) → t ≡ judged row s v next → t ≡ more 0 (given_numbers numbers) row s
unfolding taken
given_goes_on numbers row s t v next comes e q r =
    r ∙ rw (q, e) (sym (takes 0 (given_numbers numbers) row s comes (given_numbers numbers row s.at) refl))

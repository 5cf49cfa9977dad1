-- The verdict on an image, and its blocks where it is accepted, are those of its first bytes, however many, if they are more than the longest image has: the
-- numbers before its blocks stand in the first `most_header_bytes`, and a longer image is refused by one of their numbers, or by 4 at a place that they fix.
use Rattle.std.specs.Prelude.{Err}
use mathlib.Core.Path.{◌≡◌, refl, sym, ap, ◌∙◌}
use mathlib.Core.Bool.{Bool, true, false, ◌&&◌, cond}
use mathlib.Core.List.{List}
use Prim.Native.Nat.{ℕ, zero, suc, ◌+◌, ◌*◌, ◌<◌, ◌≤◌}
use native.Mathlib.Omega.{arith}
use lib.ListN.{length, take, get_or}
use lib.Seq.{take_all, length-take-le, get_or-take}
use lib.Dec.{eqb, ltb}
use borrow.Author.Tests.{lt-ltb, le-ltb}
use Rattle.limits.specs.Limits.{block_length}
use Rattle.image_result.specs.ImageResult.{done}
use Rattle.std.specs.Prelude.{Result}
use Rattle.image_number.specs.Number.{number_at, read_as, first_byte, second_byte}
use Rattle.image_header.specs.Rows.{row_count, landings_from, stands}
use Rattle.image_header.specs.Scan.{Scanned, from_image, taken, more, scan, most_header_bytes, first_refusal, length_result, scanned_header, read_with, closed}
use Rattle.image_header.specs.Scan.{header_of, landings_of, blocks_of}
use Rattle.image_result.specs.declared.ImageFault.TheVariants.{LeftOver}
use Rattle.image_number.specs.declared.Number.{Number}
use Rattle.image_number.specs.declared.NumberFault.{NumberFault}
use Rattle.logic.proofs.Choice.{by, either}
use Rattle.image_header.proofs.Accepted.{accepted_header}
use Rattle.image_header.proofs.Scanning.{at_most, image_near}
use Rattle.image_header.proofs.Read.{read_fine}
use Rattle.walk.specs.Verdict.{verdict_of, accepted_blocks}
use Rattle.image_header.specs.Longest.{longest_image}
use Rattle.image_header.proofs.Longest.{image_sized, image_end}
use Rattle.text_verdict.specs.Input.{input_length}

-- what a number comes to where two bytes are there, b and c
unfoldable two_bytes : ℕ → ℕ → ℕ → Result Number NumberFault
two_bytes at b c = cond (ltb b 128) (read_as b (at + 1)) (second_byte at b c)

inside : (s : List ℕ) (at : ℕ) → at + 1 < length s → number_at s at ≡ two_bytes at (get_or s at 0) (get_or s (at + 1) 0)
unfolding number_at first_byte two_bytes
inside s at h = rw (lt-ltb at (length s) (omega arith), lt-ltb (at + 1) (length s) h)

-- there the image's length plays no part
length_free : (n m row : ℕ) (s : Scanned) (at b c : ℕ) → taken n row s (two_bytes at b c) ≡ taken m row s (two_bytes at b c)
unfolding taken two_bytes second_byte
length_free n m row s at b c =
    either P (ltb b 128) refl (either P (eqb c 0) refl (either P (ltb c 128) refl refl))
  where
    P : Result Number NumberFault → Type 0
    P x = taken n row s x ≡ taken m row s x

-- two images that are longer than any image let pass, with the same bytes where the header stands
module _ (a b : List ℕ) (long-a : longest_image < length a) (long-b : longest_image < length b)
    (same : (k : ℕ) → k < most_header_bytes → get_or a k 0 ≡ get_or b k 0) where
  same_taken : (row : ℕ) (s : Scanned) → s.at + 1 < most_header_bytes → taken (length a) row s (number_at a s.at) ≡ taken (length b) row s (number_at b s.at)
  same_taken row s h =
      rw (inside a s.at (omega arith), inside b s.at (omega arith), same s.at (omega arith), same (s.at + 1) h)
      (length_free (length a) (length b) row s s.at (get_or b s.at 0) (get_or b (s.at + 1) 0))

  same_more : (row : ℕ) (s : Scanned) → s.at + 1 < most_header_bytes → more (length a) (from_image a) row s ≡ more (length b) (from_image b) row s
  unfolding more
  same_more row s h = ap (λ (x : Scanned). cond (done s.result && stands row s.numbers) x s) (same_taken row s h)

  same_scan : (k : ℕ) → k ≤ row_count → scan (length a) (from_image a) k ≡ scan (length b) (from_image b) k
  unfolding scan
  same_scan zero h = refl
  same_scan (suc k) h =
      let e = same_scan k (omega arith) in
      let near = at_most (length a) (from_image a) (image_near a) k in
      same_more k (scan (length a) (from_image a) k) (omega arith) ∙ ap (λ (s : Scanned). more (length b) (from_image b) k s) e

  -- the numbers of a, where the scan let them pass, leave room for no byte more
  within : done (scan (length a) (from_image a) row_count).result ≡ true
      → (scan (length a) (from_image a) row_count).at + block_length * (scanned_header (scan (length a) (from_image a) row_count)).count ≤ longest_image
  within h = image_end (length a) (from_image a) (image_sized a) (accepted_header (length a) (from_image a) h)

  left_over : (at count n : ℕ) → at + block_length * count ≤ longest_image → longest_image < n → length_result at count n ≡ Err (LeftOver (at + block_length * count))
  unfolding length_result
  left_over at count n h l = rw (le-ltb n (at + block_length * count) (omega arith), lt-ltb (at + block_length * count) n (omega arith))

  same_length : (s : Scanned) → (done s.result ≡ true → s.at + block_length * (scanned_header s).count ≤ longest_image) → closed s (length a) ≡ closed s (length b)
  unfolding closed first_refusal
  same_length s h = ap (read_with s) (go (done s.result) refl)
    where
      go : (t : Bool) → done s.result ≡ t
          → cond t (length_result s.at (scanned_header s).count (length a)) s.result
          ≡ cond t (length_result s.at (scanned_header s).count (length b)) s.result
      go true e = left_over s.at (scanned_header s).count (length a) (h e) long-a ∙ sym (left_over s.at (scanned_header s).count (length b) (h e) long-b)
      go false e = refl

  same_header : header_of a ≡ header_of b
  unfolding header_of
  same_header =
      same_length (scan (length a) (from_image a) row_count) within
      ∙ ap (λ (s : Scanned). closed s (length b)) (same_scan row_count (omega arith))

  same_landings : landings_of a ≡ landings_of b
  unfolding landings_of
  same_landings = ap (λ (s : Scanned). landings_from s.numbers) (same_scan row_count (omega arith))

  -- it is refused, and has no blocks
  refused : (t : Bool) → done (header_of a).result ≡ t → t ≡ false
  refused false e = refl
  refused true e =
      let r = read_fine a e in
      let l = r.long in
      let w = within r.scanned in
      absurd (omega arith)

  same_blocks : blocks_of a ≡ blocks_of b
  unfolding blocks_of
  same_blocks =
      let e = refused (done (header_of a).result) refl in
      rw (← same_header, e)

  same_verdict : (marks : ℕ) → verdict_of a marks ≡ verdict_of b marks
  unfolding verdict_of
  same_verdict marks = rw (same_header, same_landings, same_blocks)

  same_accepted : (marks : ℕ) → accepted_blocks a marks ≡ accepted_blocks b marks
  unfolding accepted_blocks
  same_accepted marks = rw (same_verdict marks, same_blocks)

-- what two such images have in common, n first bytes have in common with the image
enough : {A : Type 0} (f : List ℕ → A)
    → ((a b : List ℕ) → longest_image < length a → longest_image < length b → ((k : ℕ) → k < most_header_bytes → get_or a k 0 ≡ get_or b k 0) → f a ≡ f b)
    → (image : List ℕ) (n : ℕ) → input_length ≤ n → f (take n image) ≡ f image
enough f same image n h =
    by n (length image)
    (λ l.
    let e = length-take-le n image (omega arith) in
    same (take n image) image (omega arith) (omega arith) (λ k g. get_or-take n image k 0 (omega arith)))
    (λ l. ap f (take_all n image l))

-- the law: n first bytes are enough for the verdict
pub beginning : (image : List ℕ) (n marks : ℕ) → input_length ≤ n → verdict_of (take n image) marks ≡ verdict_of image marks
beginning image n marks = enough (λ s. verdict_of s marks) (λ a b x y z. same_verdict a b x y z marks) image n

-- and for the blocks that are handed back
pub beginning_blocks : (image : List ℕ) (n marks : ℕ) → input_length ≤ n → accepted_blocks (take n image) marks ≡ accepted_blocks image marks
beginning_blocks image n marks = enough (λ s. accepted_blocks s marks) (λ a b x y z. same_accepted a b x y z marks) image n

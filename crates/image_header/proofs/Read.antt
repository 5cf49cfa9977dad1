-- An image that is not refused: its length is that of its numbers and blocks.
use Rattle.std.specs.Prelude.{is_ok, Result, Ok, Err}
use Rattle.std.specs.Result.{result_and}
use mathlib.Core.Path.{◌≡◌, refl, sym, ap, ◌∙◌}
use mathlib.Core.Bool.{Bool, true, false, cond}
use mathlib.Core.List.{List, []}
use Prim.Native.Nat.{ℕ, ◌+◌, ◌-◌, ◌*◌, ◌≤◌}
use native.Mathlib.Omega.{arith}
use lib.ListN.{length, take, drop, length-drop}
use lib.Seq.{take_all}
use lib.Dec.{ltb}
use borrow.Author.Tests.{ltb-false, le-ltb}
use Rattle.limits.specs.Limits.{block_length}
use Rattle.image_result.specs.ImageResult.{done}
use Rattle.image_header.specs.Numbers.{header_from}
use Rattle.image_header.specs.Scan.{no_numbers, Scanned, scanned_header, first_refusal, length_result, read_result, read_with, closed, scan_of, header_of, blocks_of}
use Rattle.image_result.specs.ImageResult.{ImageResult}
use Rattle.image_header.specs.Scan.{HeaderJudged}
use Rattle.image_header.specs.declared.reader.HeaderRead.{HeaderRead}
use Rattle.image_result.specs.declared.ImageFault.{ImageFault}
use Rattle.logic.proofs.Choice.{clash, other_way}

-- two judgements that both let pass
pub neither : (a b : ImageResult) → done (first_refusal a b) ≡ true → (done a ≡ true) × (done b ≡ true)
unfolding first_refusal
neither a b h = go (done a) refl
  where
    go : (t : Bool) → done a ≡ t → (done a ≡ true) × (done b ≡ true)
    go true e = (e, rw e at h)
    go false e = clash (sym (rw e at h) ∙ e)

pub both_pass : (a b : ImageResult) → done a ≡ true → first_refusal a b ≡ b
unfolding first_refusal
both_pass a b e = rw e

-- the length is right
pub length_right : (at count n : ℕ) → done (length_result at count n) ≡ true → n ≡ at + block_length * count
unfolding length_result
length_right at count n h =
    let a = other_way done (ltb n (at + block_length * count)) refl h in
    let b = other_way done (ltb (at + block_length * count) n) refl (sym (ap done a.1) ∙ h) in
    let low = ltb-false n (at + block_length * count) a.0 in
    let high = ltb-false (at + block_length * count) n b.0 in
    omega arith

pub length_passes : (at count n : ℕ) → n ≡ at + block_length * count → length_result at count n ≡ Ok tt
unfolding length_result
length_passes at count n e = rw (le-ltb n (at + block_length * count) (omega arith), le-ltb (at + block_length * count) n (omega arith))

pub record Closed (s : Scanned) (n : ℕ) : Type 0 where
  pub scanned : done s.result ≡ true
  pub long : n ≡ s.at + block_length * (scanned_header s).count
  pub is : closed s n ≡ record { result = Ok tt; header = scanned_header s; at = s.at }

pub closed_is : (s : Scanned) (n : ℕ) → done s.result ≡ true → n ≡ s.at + block_length * (scanned_header s).count
    → closed s n ≡ record { result = Ok tt; header = scanned_header s; at = s.at }
unfolding closed read_with
closed_is s n d e = rw (both_pass s.result (length_result s.at (scanned_header s).count n) d, length_passes s.at (scanned_header s).count n e)

pub closed_fine : (s : Scanned) (n : ℕ) → done (closed s n).result ≡ true → Closed s n
unfolding closed read_with
closed_fine s n h = go (done o) refl
  where
    o : ImageResult
    o = first_refusal s.result (length_result s.at (scanned_header s).count n)

    go : (t : Bool) → done o ≡ t → Closed s n
    go false e = clash (sym (rw e at h) ∙ e)
    go true e =
        let b = neither s.result (length_result s.at (scanned_header s).count n) e in
        let l = length_right s.at (scanned_header s).count n b.1 in
        record { scanned = b.0; long = l; is = closed_is s n b.0 l }

pub read_fine : (image : List ℕ) → done (header_of image).result ≡ true → Closed (scan_of image) (length image)
unfolding header_of
read_fine image h = closed_fine (scan_of image) (length image) h

-- the blocks begin within the image
pub place_inside : (image : List ℕ) → done (header_of image).result ≡ true → (header_of image).at ≤ length image
unfolding header_of
place_inside image h =
    let c = read_fine image h in
    let e : (header_of image).at ≡ (scan_of image).at = ap (λ (r : HeaderJudged). r.at) c.is in
    let l = c.long in
    omega arith

-- what is handed on of a header: the refusal of its numbers, or else of the length, or else the header and the place of the blocks
pub closed_as : (s : Scanned) (n : ℕ)
    → read_result (closed s n)
    ≡ result_and s.result (result_and (length_result s.at (scanned_header s).count n) (Ok (record { header = scanned_header s; at = s.at })))
unfolding closed read_with first_refusal
closed_as s n = go s.result (length_result s.at (scanned_header s).count n)
  where
    handed : ImageResult → ImageResult → Result HeaderRead ImageFault
    handed a b = result_and a (result_and b (Ok (record { header = scanned_header s; at = s.at })))

    go : (a b : ImageResult) → read_result (read_with s (cond (done a) b a)) ≡ handed a b
    go (Ok _) (Ok _) = refl
    go (Ok _) (Err f) = refl
    go (Err f) b = refl

-- a header that is handed on is the image's, which was not refused
pub record Handed (image : List ℕ) (h : HeaderRead) : Type 0 where
  pub result : (header_of image).result ≡ Ok tt
  pub header : h.header ≡ (header_of image).header
  pub at : h.at ≡ (header_of image).at

-- where it is refused, its numbers are 0
refused_with : (s : Scanned) (o : ImageResult) (f : ImageFault) → (read_with s o).result ≡ Err f → (read_with s o).header ≡ header_from no_numbers
unfolding read_with
refused_with s (Ok _) f e = clash (ap is_ok e)
refused_with s (Err x) f e = refl

module _ (image : List ℕ) where
  abbrev with_header : ImageResult → Result HeaderRead ImageFault
  with_header o = result_and o (Ok (record { header = (header_of image).header; at = (header_of image).at }))

  pub handed : (h : HeaderRead) → read_result (header_of image) ≡ Ok h → Handed image h
  handed h e = go (header_of image).result refl e
    where
      told : Result HeaderRead ImageFault → HeaderRead
      told (Ok x) = x
      told (Err f) = h

      go : (o : ImageResult) → (header_of image).result ≡ o → with_header o ≡ Ok h → Handed image h
      go (Ok _) i k = record { result = i; header = sym (ap (λ r. (told r).header) k); at = sym (ap (λ r. (told r).at) k) }
      go (Err f) i k = clash (sym (ap is_ok k))

  pub refused : (f : ImageFault) → read_result (header_of image) ≡ Err f → (header_of image).result ≡ Err f
  refused f e = go (header_of image).result refl e
    where
      go : (o : ImageResult) → (header_of image).result ≡ o → with_header o ≡ Err f → (header_of image).result ≡ Err f
      go (Ok _) i k = clash (ap is_ok k)
      go (Err x) i k = i ∙ fault k
        where
          fault : ◌≡◌ {A = Result HeaderRead ImageFault} (Err x) (Err f) → ◌≡◌ {A = ImageResult} (Err x) (Err f)
          fault k = ap told k
            where
              told : Result HeaderRead ImageFault → ImageResult
              told (Ok h) = Err x
              told (Err y) = Err y

  pub inside : (h : HeaderRead) → read_result (header_of image) ≡ Ok h → h.at ≤ length image
  inside h e = let r = handed h e in rw r.at (place_inside image (ap done r.result))

  pub all_blocks : (h : HeaderRead) → read_result (header_of image) ≡ Ok h → take (length image - h.at) (drop h.at image) ≡ blocks_of image
  unfolding blocks_of
  all_blocks h e =
      let r = handed h e in
      let i = inside h e in
      rw (r.result, ← r.at) (take_all (length image - h.at) (drop h.at image) (omega (arith, length-drop h.at image)))

  pub no_blocks : (f : ImageFault) → read_result (header_of image) ≡ Err f → [] ≡ blocks_of image
  unfolding blocks_of
  no_blocks f e = rw (refused f e) refl

  pub refused_header : (f : ImageFault) → read_result (header_of image) ≡ Err f → (header_of image).header ≡ header_from no_numbers
  unfolding header_of closed
  refused_header f e =
      let s = scan_of image in
      refused_with s (first_refusal s.result (length_result s.at (scanned_header s).count (length image))) f (refused f e)

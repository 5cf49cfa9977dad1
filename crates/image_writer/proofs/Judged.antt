-- Numbers that the writer's judging let pass: they are those that the scan holds, each that stands has a form of one or two bytes, and they stand one after the
-- other.
use Rattle.std.specs.Prelude.{Ok, Err}
use mathlib.Core.Path.{◌≡◌, refl, sym, ap, ◌∙◌}
use mathlib.Core.Bool.{Bool, true, false, ◌||◌, cond}
use mathlib.Core.Logic.{◌⊎◌, inl, inr}
use mathlib.Core.List.{List, ◌++◌}
use Prim.Native.Nat.{ℕ, zero, suc, ◌+◌, ◌*◌, ◌<◌, ◌≤◌}
use native.Mathlib.Omega.{arith}
use lib.ListN.{length, get_or, length-replicate}
use lib.Dec.{eqb, ltb}
use borrow.Author.Tests.{ltb-false, le-ltb, eqb-true, eqb-false, eq-eqb, ne_eqb}
use Rattle.limits.specs.Limits.{most_landings, block_length}
use Rattle.image_result.specs.ImageResult.{done}
use Rattle.image_result.specs.declared.ImageFault.TheVariants.{OutOfRange, BadLanding}
use Rattle.image_result.specs.ImageResult.{ImageResult}
use Rattle.image_header.specs.Rows.{header_count, landing_count_row, row_count, stands}
use Rattle.image_header.specs.Scan.{Scanned, scan_begun, stopped, scan, most_header_bytes, scanned_header, first_refusal, beside, alone}
use Rattle.image_header.specs.declared.reader.Scan.{Scan}
use Rattle.image_writer.specs.Writer.{given_numbers, HaveForms, first_numbers, image_of, overlaid, room_result, written_with, judged_write}
use Rattle.image_writer.specs.Writer.{landings_stand, judged_for, written, out_after}
use Rattle.image_writer.specs.declared.Written.{Written}
use Rattle.logic.proofs.Choice.{clash, test, or_is, either, first_way, other_way}
use Rattle.image_number.proofs.Numbers.{value_of, next_of}
use Rattle.image_header.proofs.Rows.{header_stands, stands_back}
use Rattle.image_header.proofs.Scanning.{number_is, scan_long, at_most}
use Rattle.image_header.proofs.Accepted.{place, Accepted, accepted_header}
use Rattle.image_header.proofs.Beside.{with, header_long, front_number, front_stands}
use Rattle.image_header.proofs.Longest.{number_small}
use Rattle.image_header.proofs.Read.{neither, both_pass}
use Rattle.image_writer.proofs.HeaderBytes.{one_more, image_length, given_near}

-- each landing block that is given has its place
abbrev pub LandingsStand : List ℕ → Type 0
LandingsStand numbers = (stands landing_count_row numbers || eqb (get_or numbers landing_count_row 0) 0) ≡ true

module _ (numbers : List ℕ) (ok : done (scan 0 (given_numbers numbers) row_count).result ≡ true) (stand : LandingsStand numbers) where
  pub judged_numbers : Accepted 0 (given_numbers numbers)
  judged_numbers = accepted_header 0 (given_numbers numbers) ok

  abbrev all : List ℕ
  all = (scan 0 (given_numbers numbers) row_count).numbers

  -- ---- the scan holds the numbers that are given

  there : (k : ℕ) → k < row_count → stands k all ≡ true → get_or all k 0 ≡ get_or numbers k 0
  there k l e = number_is 0 (given_numbers numbers) row_count k l ∙ sym (value_of (judged_numbers.numbers k l e))

  always : (k : ℕ) → k < landing_count_row → get_or all k 0 ≡ get_or numbers k 0
  always k l = there k (omega arith) (header_stands k all (omega arith) (λ q. omega arith))

  no_count : stands landing_count_row all ≡ false → get_or numbers landing_count_row 0 ≡ 0
  no_count e = go (or_is (stands landing_count_row numbers) (eqb (get_or numbers landing_count_row 0) 0) stand)
    where
      go : (stands landing_count_row numbers ≡ true) ⊎ (eqb (get_or numbers landing_count_row 0) 0 ≡ true) → get_or numbers landing_count_row 0 ≡ 0
      go (inl q) = clash (sym q ∙ stands_back numbers all landing_count_row (λ j u _. sym (always j u)) ∙ e)
      go (inr q) = eqb-true (get_or numbers landing_count_row 0) 0 q

  pub header_given : (k : ℕ) → k < header_count → get_or all k 0 ≡ get_or numbers k 0
  header_given k l =
      test (stands k all)
      (there k (omega arith))
      (λ e. test (eqb k landing_count_row)
      (λ q.
      let r = eqb-true k landing_count_row q in
      judged_numbers.absent k (omega arith) e ∙ (rw r (sym (no_count (rw r at e)))))
      (λ q. clash (sym (header_stands k all l (eqb-false k landing_count_row q)) ∙ e)))

  pub stands_given : (k : ℕ) → stands k numbers ≡ stands k all
  stands_given k = stands_back numbers all k (λ j _ u. sym (header_given j u))

  -- ---- and they have their forms, one after the other

  pub given_is : (k : ℕ) → k < row_count → stands k numbers ≡ true → get_or all k 0 ≡ get_or numbers k 0
  given_is k l e = there k l (sym (stands_given k) ∙ e)

  pub small_numbers : HaveForms numbers
  small_numbers k l e =
      let a = judged_numbers in
      let g = given_is k l e in
      let n = number_small all a.good a.landings k in
      omega arith

  -- the scan is where the bytes of the numbers end
  pub placed : (k : ℕ) → k ≤ row_count → place 0 (given_numbers numbers) k ≡ length (first_numbers numbers k)
  unfolding scan first_numbers
  placed zero h = refl
  placed (suc k) h =
      let l : k < row_count = omega arith in
      let p = placed k (omega arith) in
      let m = one_more numbers k in
      test (stands k all)
      (λ t. let e = next_of (judged_numbers.numbers k l t) in rw (m, stands_given k, t) (omega arith))
      (λ t. let e = ap (λ (s : Scanned). s.at) (judged_numbers.over k l t) in rw (m, stands_given k, t) (omega arith))

-- ---- what the writer of a format asks besides

-- numbers that it let pass
pub record Passed (format : ℕ) (numbers : List ℕ) : Type 0 where
  pub own : get_or numbers 0 0 ≡ format
  pub stand : LandingsStand numbers
  pub is : judged_for format numbers ≡ scan 0 (given_numbers numbers) row_count

module _ (format : ℕ) (numbers : List ℕ) where
  pub judged_passed : done (judged_for format numbers).result ≡ true → Passed format numbers
  unfolding judged_for landings_stand first_refusal
  judged_passed h =
      let s = scan 0 (given_numbers numbers) row_count in
      let a = first_way (λ (x : Scanned). done x.result) (eqb (get_or numbers 0 0) format) refl h in
      let b = first_way (λ (x : Scanned). done x.result) (stands landing_count_row numbers || eqb (get_or numbers landing_count_row 0) 0) (never s.result s.at)
      (sym (ap (λ (x : Scanned). done x.result) a.1) ∙ h) in
      record { own = eqb-true (get_or numbers 0 0) format a.0; stand = b.0; is = a.1 ∙ b.1 }
    where
      never : (o : ImageResult) (p : ℕ) → done (first_refusal o (Err (BadLanding p))) ≡ false
      never o p = go (done o) refl
        where
          go : (t : Bool) → done o ≡ t → done (first_refusal o (Err (BadLanding p))) ≡ false
          go true e = rw e
          go false e = rw e e

  pub passed_judged : get_or numbers 0 0 ≡ format → LandingsStand numbers → judged_for format numbers ≡ scan 0 (given_numbers numbers) row_count
  unfolding judged_for landings_stand
  passed_judged e t = rw (eq-eqb (get_or numbers 0 0) format e, t)

  -- the code's way to it: another format is refused; else the scan is that of the numbers, unless a landing block has no place
  pub other_format : (get_or numbers 0 0 ≡ format → ⊥) → judged_for format numbers ≡ stopped (Err (OutOfRange 0)) scan_begun
  unfolding judged_for
  other_format n = rw (ne_eqb (get_or numbers 0 0) format n)

  pub own_format : (s t : Scanned) → get_or numbers 0 0 ≡ format → s ≡ scan 0 (given_numbers numbers) row_count → t ≡ landings_stand numbers s
      → t ≡ judged_for format numbers
  unfolding judged_for
  own_format s t e is q = q ∙ ap (landings_stand numbers) is ∙ rw (eq-eqb (get_or numbers 0 0) format e)

-- the header's numbers tell whether each landing block has its place
pub stand_beside : (ns ws l : List ℕ) → length ns ≡ header_count → (s r : Scan) → alone r ≡ landings_stand ns (alone s)
    → beside r l ≡ landings_stand (ns ++ ws) (beside s l)
unfolding landings_stand
stand_beside ns ws l long s r e =
    rw (front_stands ws ns long landing_count_row, front_number ws ns long landing_count_row (omega arith))
    (ap (λ (t : Scanned). with t l) e ∙ go (stands landing_count_row ns || eqb (get_or ns landing_count_row 0) 0))
  where
    o : ImageResult
    o = first_refusal s.result (Err (BadLanding s.at))

    go : (t : Bool) → with (cond t (alone s) (stopped o (alone s))) l ≡ cond t (beside s l) (stopped o (beside s l))
    go true = refl
    go false = refl

-- what the code holds of judged numbers
module _ (format : ℕ) (numbers : List ℕ) (s : Scan) (l : List ℕ) (long : length l ≡ most_landings) (is : beside s l ≡ judged_for format numbers) where
  judged_long : length (judged_for format numbers).numbers ≡ row_count
  unfolding judged_for landings_stand
  judged_long =
      let e = scan_long 0 (given_numbers numbers) row_count in
      let q = length-replicate {A = ℕ} row_count 0 in
      either (λ (x : Scanned). length x.numbers ≡ row_count) (eqb (get_or numbers 0 0) format)
      (either (λ (x : Scanned). length x.numbers ≡ row_count) (stands landing_count_row numbers || eqb (get_or numbers landing_count_row 0) 0) e e)
      q

  seven : length s.numbers ≡ header_count
  seven = header_long (judged_for format numbers) judged_long s l long is

  -- the rest is judged by the header's numbers alone
  pub write_alone : (b room : ℕ) → judged_write (alone s) b room ≡ written format numbers b room
  unfolding written judged_write written_with
  write_alone b room = sym (ap (λ (x : Scanned). judged_write x b room) (sym is) ∙ rw (front_number l s.numbers seven 5 (omega arith)))

  pub judged_near : s.at ≤ most_header_bytes
  unfolding judged_for landings_stand
  judged_near =
      let e = ap (λ (x : Scanned). x.at) is in
      let m = at_most 0 (given_numbers numbers) (given_near numbers) row_count in
      let n : (judged_for format numbers).at ≤ most_header_bytes =
      either (λ (x : Scanned). x.at ≤ most_header_bytes) (eqb (get_or numbers 0 0) format)
      (either (λ (x : Scanned). x.at ≤ most_header_bytes) (stands landing_count_row numbers || eqb (get_or numbers landing_count_row 0) 0) (omega arith) (omega arith))
      (omega arith) in
      omega arith

-- ---- blocks and room that fit

pub record Fits (s : Scanned) (b room : ℕ) : Type 0 where
  pub judged : done s.result ≡ true
  pub long : b ≡ block_length * (scanned_header s).count
  pub fits : s.at + b ≤ room
  pub is : judged_write s b room ≡ record { result = Ok tt; length = s.at + b }

pub room_right : (at count b room : ℕ) → done (room_result at count b room) ≡ true → (b ≡ block_length * count) × (at + b ≤ room)
unfolding room_result
room_right at count b room h =
    let x = other_way done (ltb b (block_length * count)) refl h in
    let y = other_way done (ltb (block_length * count) b) refl (sym (ap done x.1) ∙ h) in
    let z = other_way done (ltb room (at + b)) refl (sym (ap done y.1) ∙ sym (ap done x.1) ∙ h) in
    let low = ltb-false b (block_length * count) x.0 in
    let high = ltb-false (block_length * count) b y.0 in
    (omega arith, ltb-false room (at + b) z.0)

room_passes : (at count b room : ℕ) → b ≡ block_length * count → at + b ≤ room → room_result at count b room ≡ Ok tt
unfolding room_result
room_passes at count b room e h = rw (le-ltb b (block_length * count) (omega arith), le-ltb (block_length * count) b (omega arith), le-ltb room (at + b) h)

pub judged_write_is : (s : Scanned) (b room : ℕ) → done s.result ≡ true → b ≡ block_length * (scanned_header s).count → s.at + b ≤ room
    → judged_write s b room ≡ record { result = Ok tt; length = s.at + b }
unfolding judged_write written_with
judged_write_is s b room d e h =
    rw (both_pass s.result (room_result s.at (scanned_header s).count b room) d, room_passes s.at (scanned_header s).count b room e h)

pub fitted_fine : (s : Scanned) (b room : ℕ) → done (judged_write s b room).result ≡ true → Fits s b room
unfolding judged_write written_with
fitted_fine s b room h = go (done o) refl
  where
    o : ImageResult
    o = first_refusal s.result (room_result s.at (scanned_header s).count b room)

    go : (t : Bool) → done o ≡ t → Fits s b room
    go false e = clash (sym (rw e at h) ∙ e)
    go true e =
        let p = neither s.result (room_result s.at (scanned_header s).count b room) e in
        let r = room_right s.at (scanned_header s).count b room p.1 in
        record { judged = p.0; long = r.0; fits = r.1; is = judged_write_is s b room p.0 r.0 r.1 }

-- what the writer may rely on once nothing was refused
pub record Fine (format : ℕ) (numbers : List ℕ) (b room : ℕ) : Type 0 where
  pub passed : Passed format numbers
  pub fits : Fits (scan 0 (given_numbers numbers) row_count) b room
  pub is : written format numbers b room ≡ record { result = Ok tt; length = (scan 0 (given_numbers numbers) row_count).at + b }

pub written_fine : (format : ℕ) (numbers : List ℕ) (b room : ℕ) → done (written format numbers b room).result ≡ true → Fine format numbers b room
unfolding written
written_fine format numbers b room ok =
    let p = judged_passed format numbers (fitted_fine (judged_for format numbers) b room ok).judged in
    let same : written format numbers b room ≡ judged_write (scan 0 (given_numbers numbers) row_count) b room = ap (λ (s : Scanned). judged_write s b room) p.is in
    let f = fitted_fine (scan 0 (given_numbers numbers) row_count) b room (sym (ap (λ (w : Written). done w.result) same) ∙ ok) in
    record { passed = p; fits = f; is = same ∙ f.is }

module _ (format : ℕ) (numbers blocks : List ℕ) (room : ℕ) (ok : done (written format numbers (length blocks) room).result ≡ true) where
  fine : Fine format numbers (length blocks) room
  fine = written_fine format numbers (length blocks) room ok

  pub have_forms : HaveForms numbers
  have_forms = small_numbers numbers fine.fits.judged fine.passed.stand

  pub has_room : length (image_of numbers blocks) ≤ room
  has_room =
      let f = fine.fits.fits in
      let p = placed numbers fine.fits.judged fine.passed.stand row_count (omega arith) in
      let l = image_length numbers blocks in
      omega arith

-- what the answer says of the buffer
module _ (format : ℕ) (numbers blocks out : List ℕ) where
  pub answered : (w : Written) → w ≡ written format numbers (length blocks) (length out) → (t u : Bool) → t ≡ done w.result → t ≡ u
      → done (written format numbers (length blocks) (length out)).result ≡ u
  answered w told t u e g = sym (ap (λ (x : Written). done x.result) told) ∙ sym e ∙ g

  pub left_alone : done (written format numbers (length blocks) (length out)).result ≡ false → out ≡ out_after format numbers blocks out
  unfolding out_after
  left_alone h = rw h

  pub put_there : done (written format numbers (length blocks) (length out)).result ≡ true
      → overlaid (image_of numbers blocks) out ≡ out_after format numbers blocks out
  unfolding out_after
  put_there h = rw h

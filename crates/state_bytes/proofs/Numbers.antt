-- Numbers are read where their bytes are; and the other way, a list has the bytes of the numbers that are read from it.
use mathlib.Core.Path.{◌≡◌, sym, ap, ◌∙◌, subst}
use Prim.Native.Nat.{ℕ, zero, suc, ◌+◌, ◌*◌, ◌/◌, ◌^◌, ◌<◌}
use native.Mathlib.Omega.{arith}
use native.Mathlib.Nat.{pow-suc}
use mathlib.Core.List.{List}
use lib.IntN.{ℤ}
use lib.ListN.{length, get_or}
use borrow.Author.Count.{below_more}
use mir.Syntax.{w32}
use mir.Val.{SFits, Fits, to_z}
use mir.ValLaws.{to_z-Fits}
use mir.Facts.{of_z-to_z}
use Rattle.logic.proofs.Has.{Has, left, right, head, tail, nil, cons, join}
use Rattle.num_arith.specs.Wrap.{word, wrap}
use Rattle.num_arith.proofs.Cut.{word_fits, word_same, wrap_same}
use Rattle.num_le.specs.LittleEndian.{Bytes, le_bytes}
use Rattle.state_bytes.specs.Bytes.{le_number_at, signed_at, signed_bytes, concatenated}
use Rattle.state_bytes.proofs.Puts.{length_concatenated}

-- a number read where its bytes are
pub number : (n : ℕ) {s : List ℕ} {at : ℕ} (v : ℕ) → v < 256 ^ n → Has s at (le_bytes n v) → le_number_at n s at ≡ v
number zero v lt h = omega arith
number (suc n) {s} {at} v lt h =
    let p = pow-suc 256 n in
    let e = number n {s = s} {at = at + 1} (v / 256) (omega arith) (tail h) in
    let g = head h in
    omega arith

-- a number of one byte is the byte
pub one_byte : (s : List ℕ) (at : ℕ) → le_number_at 1 s at ≡ get_or s at 0
one_byte s at = omega arith

pub signed : {s : List ℕ} {at : ℕ} (v : ℤ) → SFits w32 v → Has s at (signed_bytes v) → signed_at s at ≡ v
unfolding wrap
signed v f h = ap (to_z w32) (number 4 (word w32 v) (word_fits w32 v).fits h) ∙ wrap_same w32 v f

-- each of a run of lists
pub each : (f : ℕ → List ℕ) (m : ℕ) → ((k : ℕ) → length (f k) ≡ m) → (n : ℕ) {s : List ℕ} {at : ℕ} → Has s at (concatenated n f) → (k : ℕ) → k < n
    → Has s (at + m * k) (f k)
unfolding concatenated
each f m long zero h k lt = absurd (omega arith)
each f m long (suc n) {s} {at} h k lt =
    below_more (λ (j : ℕ). Has s (at + m * j) (f j)) n (each f m long n (left (concatenated n f) (f n) h))
    (right (concatenated n f) (f n) (m * n) (length_concatenated f m long n) h) k (omega arith)

-- ---- the other way

pub number_below : (n : ℕ) (s : List ℕ) (at : ℕ) → Bytes s → le_number_at n s at < 256 ^ n
number_below zero s at b = omega arith
number_below (suc n) s at b = let p = pow-suc 256 n in let e = number_below n s (at + 1) b in let g = b at in omega arith

pub signed_fits : (s : List ℕ) (at : ℕ) → Bytes s → SFits w32 (signed_at s at)
signed_fits s at b = to_z-Fits w32 (le_number_at 4 s at) (record { fits = number_below 4 s at b })

pub of_number : (n : ℕ) (s : List ℕ) (at : ℕ) → Bytes s → Has s at (le_bytes n (le_number_at n s at))
of_number zero s at b = nil
of_number (suc n) s at b =
    let g = b at in
    let q : le_number_at (suc n) s at / 256 ≡ le_number_at n s (at + 1) = omega arith in
    cons (omega arith) (subst (λ (v : ℕ). Has s (at + 1) (le_bytes n v)) (sym q) (of_number n s (at + 1) b))

pub of_signed : (s : List ℕ) (at : ℕ) → Bytes s → Has s at (signed_bytes (signed_at s at))
of_signed s at b =
    let f : Fits w32 (le_number_at 4 s at) = record { fits = number_below 4 s at b } in
    subst (λ (v : ℕ). Has s at (le_bytes 4 v)) (sym (word_same w32 (signed_at s at) (signed_fits s at b) ∙ of_z-to_z f)) (of_number 4 s at b)

-- a run of lists, from each
pub run : (f : ℕ → List ℕ) (m : ℕ) → ((k : ℕ) → length (f k) ≡ m) → (n : ℕ) (s : List ℕ) (at : ℕ) → ((k : ℕ) → k < n → Has s (at + m * k) (f k))
    → Has s at (concatenated n f)
unfolding concatenated
run f m long zero s at h = nil
run f m long (suc n) s at h =
    join (concatenated n f) (f n) (m * n) (length_concatenated f m long n) (run f m long n s at (λ k lt. h k (omega arith))) (h n (omega arith))

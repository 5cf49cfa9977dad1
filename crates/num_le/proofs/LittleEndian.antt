-- Numbers in bytes, low byte first, at every width n: what n bytes stand for is below 256 ^ n, and number and bytes give each other back.
use mathlib.Core.Path.{◌≡◌, refl, sym, ap, ◌∙◌, subst}
use Prim.Native.Nat.{ℕ, zero, suc, ◌+◌, ◌*◌, ◌/◌, ◌%◌, ◌^◌, ◌<◌}
use native.Mathlib.Nat.{pow-suc}
use native.Mathlib.Omega.{arith}
use mathlib.Core.List.{List, [], ◌∷◌}
use lib.ListN.{length}
use lib.IntN.{ℤ}
use mir.Syntax.{Width, w8, w16, w32, w64, w128}
use mir.Val.{Fits, SFits, bits, bytes, to_z}
use mir.ValLaws.{to_z-Fits}
use mir.Facts.{of_z-to_z}
use Rattle.num_arith.specs.Wrap.{word, wrap}
use Rattle.num_le.specs.LittleEndian.{Bytes, le_number, le_bytes}
use Rattle.num_arith.proofs.Cut.{word_fits, word_same, wrap_same}

pub number_below : (s : List ℕ) → Bytes s → le_number s < 256 ^ length s
number_below [] h = omega arith
number_below (b ∷ bs) h =
    let p = pow-suc 256 (length bs) in
    let f = h 0 in
    let g = number_below bs (λ k. h (suc k)) in
    omega arith

pub bytes_length : (n v : ℕ) → length (le_bytes n v) ≡ n
bytes_length zero v = refl
bytes_length (suc n) v = ap suc (bytes_length n (v / 256))

-- a number is read back from its bytes
pub read_back : (n v : ℕ) → v < 256 ^ n → le_number (le_bytes n v) ≡ v
read_back zero v h = omega arith
read_back (suc n) v h =
    let p = pow-suc 256 n in
    let e = read_back n (v / 256) (omega arith) in
    omega arith

-- bytes are put back from their number
pub put_back : (s : List ℕ) → Bytes s → le_bytes (length s) (le_number s) ≡ s
put_back [] h = refl
put_back (b ∷ bs) h =
    let f : b < 256 = h 0 in
    let r : (b + 256 * le_number bs) % 256 ≡ b = omega arith in
    let q : (b + 256 * le_number bs) / 256 ≡ le_number bs = omega arith in
    rw (r, q, put_back bs (λ k. h (suc k)))

-- ---- signed numbers, at every width: the bytes of the two's complement pattern

turns : (w : Width) → 256 ^ bytes w ≡ 2 ^ bits w
turns w8 = refl
turns w16 = refl
turns w32 = refl
turns w64 = refl
turns w128 = refl

pub signed_read_back : (w : Width) (z : ℤ) → SFits w z → to_z w (le_number (le_bytes (bytes w) (word w z))) ≡ z
unfolding wrap
signed_read_back w z f =
    ap (to_z w) (read_back (bytes w) (word w z) (subst (λ (n : ℕ). word w z < n) (sym (turns w)) (word_fits w z).fits)) ∙ wrap_same w z f

pub signed_put_back : (w : Width) (s : List ℕ) → length s ≡ bytes w → Bytes s → le_bytes (bytes w) (word w (to_z w (le_number s))) ≡ s
signed_put_back w s e h =
    let low : le_number s < 2 ^ bits w = subst (λ (n : ℕ). le_number s < n) (ap (λ (k : ℕ). 256 ^ k) e ∙ turns w) (number_below s h) in
    let f : Fits w (le_number s) = record { fits = low } in
    rw (word_same w (to_z w (le_number s)) (to_z-Fits w (le_number s) f), of_z-to_z f, ← e) (put_back s h)

-- A number cut to a width v, at every width: it fits, it is the number itself where that fits, and it is what the low bits of a wider pattern say.
use mathlib.Core.Path.{◌≡◌, refl, sym, ap, ◌∙◌}
use Prim.Native.Nat.{ℕ, suc, ◌-◌, ◌/◌, ◌%◌, ◌^◌, ◌<◌, ◌≤◌}
use native.Mathlib.Nat.{add-mod_right, mod-eq-sub-mod, mod-lt, mod-eq_of_lt, lt_of_lt_of_le, div-eq_of_lt}
use native.Mathlib.Omega.{arith}
use lib.Dec.{ltb}
use mathlib.Core.Bool.{Bool, true, false, cond}
use borrow.Author.Tests.{ltb-true, ltb-false}
use lib.IntN.{ℤ, pos, negsuc, ◌+ℤ◌}
use lib.Pow.{pow_mono, pow_pos, pow-sub-lt}
use mir.Syntax.{Width}
use lib.Signed.{mag}
use mir.Val.{Fits, SFits, bits, of_z, to_z}
use mir.ValLaws.{half_full, to_z-Fits}
use mir.Facts.{to_z-of_z}
use Rattle.std.specs.Int.{int_wrap}
use Rattle.num_arith.specs.Wrap.{word, wrap}
use Rattle.num_arith.specs.Ops.{bit_at}

module _ (v : Width) where
  pub word_fits : (z : ℤ) → Fits v (word v z)
  unfolding word
  word_fits (pos k) = record { fits = mod-lt k (pow_pos (bits v)) }
  word_fits (negsuc k) = record { fits = pow-sub-lt (bits v) (omega arith) }

  -- a pattern has no bit from its width on
  pub no_bit : (n : ℕ) (z : ℤ) → bits v ≤ n → bit_at v n z ≡ false
  unfolding bit_at
  no_bit n z h =
      let q : word v z / 2 ^ n ≡ 0 = div-eq_of_lt (lt_of_lt_of_le (word_fits z).fits (pow_mono h)) in
      rw q

  -- a number that is less than a turn has its own bits
  pub word_near : (z : ℤ) → mag z < 2 ^ bits v → word v z ≡ of_z v z
  unfolding word
  word_near (pos k) h = mod-eq_of_lt h
  word_near (negsuc k) h = ap (λ (n : ℕ). 2 ^ bits v - suc n) (mod-eq_of_lt h)

  -- so has one that fits
  pub word_same : (z : ℤ) → SFits v z → word v z ≡ of_z v z
  word_same z f = word_near z (half_full v f.sfits)

  -- whatever z is, it is cut to a number from -2 ^ hbits v up to 2 ^ hbits v - 1
  pub wrap_fits : (z : ℤ) → SFits v (wrap v z)
  unfolding wrap
  wrap_fits z = to_z-Fits v (word v z) (word_fits z)

  -- and a number of that range is left as it is
  pub wrap_same : (z : ℤ) → SFits v z → wrap v z ≡ z
  unfolding wrap
  wrap_same z f = ap (to_z v) (word_same z f) ∙ to_z-of_z f

  -- and numbers that are a whole turn apart are cut to the same: with the two laws above, this says all that `wrap` is
  pub wrap_turn : (z : ℤ) → wrap v (z +ℤ pos (2 ^ bits v)) ≡ wrap v z
  unfolding wrap word
  wrap_turn (pos k) = ap (to_z v) (add-mod_right k (2 ^ bits v))
  wrap_turn (negsuc k) = ap (to_z v) (turn (ltb (2 ^ bits v) (suc k)) refl)
    where
      turn : (t : Bool) → ltb (2 ^ bits v) (suc k) ≡ t → word v (cond t (negsuc (suc k - suc (2 ^ bits v))) (pos (2 ^ bits v - suc k))) ≡ word v (negsuc k)
      turn true e =
          let h : 2 ^ bits v < suc k = ltb-true (2 ^ bits v) (suc k) e in
          let g : suc k - suc (2 ^ bits v) ≡ k - 2 ^ bits v = omega arith in
          ap (λ (n : ℕ). 2 ^ bits v - suc n) (ap (λ (n : ℕ). n % 2 ^ bits v) g ∙ sym (mod-eq-sub-mod (omega arith)))
      turn false e =
          let h : suc k ≤ 2 ^ bits v = ltb-false (2 ^ bits v) (suc k) e in
          mod-eq_of_lt (omega arith) ∙ ap (λ (n : ℕ). 2 ^ bits v - suc n) (sym (mod-eq_of_lt h))

  -- std's `int_wrap` cuts in the same way
  pub is_wrap : (z : ℤ) → int_wrap v z ≡ wrap v z
  unfolding wrap word int_wrap
  is_wrap (pos k) = refl
  is_wrap (negsuc k) = let e : 2 ^ bits v - 1 - k % 2 ^ bits v ≡ 2 ^ bits v - suc (k % 2 ^ bits v) = omega arith in ap (to_z v) e

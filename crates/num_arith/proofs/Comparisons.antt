-- A test of two patterns is the test of their numbers, at every width.
use mathlib.Core.Path.{◌≡◌, refl, sym, ap, ◌∙◌}
use mathlib.Core.Bool.{Bool, true, false}
use Prim.Native.Nat.{ℕ, suc, ◌-◌, ◌^◌, ◌<◌}
use native.Mathlib.Omega.{arith}
use borrow.Author.Tests.{eqb-true, eqb-false, ne_eqb, eq-eqb}
use lib.Dec.{eqb}
use lib.IntN.{ℤ, pos, negsuc}
use mir.Syntax.{Width}
use mir.Val.{SFits, bits, hbits, of_z}
use lib.Pow.{pow_pos}
use mir.ValLaws.{pow-bits}
use Rattle.num_arith.specs.Ops.{eq_z}

-- below the same number
down : (B a b : ℕ) (t : Bool) → eqb a b ≡ t → a < B → b < B → eqb (B - suc a) (B - suc b) ≡ t
down B a b true e h k = eq-eqb (B - suc a) (B - suc b) (ap (λ (n : ℕ). B - suc n) (eqb-true a b e))
down B a b false e h k = ne_eqb (B - suc a) (B - suc b) (λ q. eqb-false a b e (omega arith))

module _ (v : Width) where
  pub same_bits : (a b : ℤ) → SFits v a → SFits v b → eqb (of_z v a) (of_z v b) ≡ eq_z a b
  same_bits (pos a) (pos b) f g = refl
  same_bits (pos a) (negsuc b) f g = ne_eqb a (2 ^ bits v - suc b) (let p = pow-bits v in let h = f.sfits in let k = g.sfits in λ q. omega arith)
  same_bits (negsuc a) (pos b) f g = ne_eqb (2 ^ bits v - suc a) b (let p = pow-bits v in let h = f.sfits in let k = g.sfits in λ q. omega arith)
  same_bits (negsuc a) (negsuc b) f g = let p = pow-bits v in let h = f.sfits in let k = g.sfits in
      down (2 ^ bits v) a b (eqb a b) refl (omega arith) (omega arith)

  -- zero, as the code tests for it
  pub is_zero : {z : ℤ} → SFits v z → of_z v z ≡ 0 → eq_z z (pos 0) ≡ true
  is_zero {z} f e = sym (same_bits z (pos 0) f (record { sfits = pow_pos (hbits v) })) ∙ eq-eqb (of_z v z) 0 e

  pub no_zero : {z : ℤ} → SFits v z → (of_z v z ≡ 0 → ⊥) → eq_z z (pos 0) ≡ false
  no_zero {z} f n = sym (same_bits z (pos 0) f (record { sfits = pow_pos (hbits v) })) ∙ ne_eqb (of_z v z) 0 n

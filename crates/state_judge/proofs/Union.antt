-- A test of bytes taken together is the test of each, where it holds of 0 and of a union exactly when of both parts.
use Prim.Native.Nat.{ℕ, zero, suc, ◌+◌, ◌-◌, ◌^◌, ◌<◌, ◌≤◌}
use mathlib.Core.Path.{◌≡◌, refl, sym, ap, ap₂, ◌∙◌}
use mathlib.Core.Bool.{Bool, true, false, ◌&&◌}
use mathlib.Core.List.{List}
use native.Mathlib.Omega.{arith}
use lib.Bits.{bit_or, or_lt, or_add_and, and_le_l, and_le_r}
use lib.Pow.{pow_pos}
use lib.Dec.{eqb, leb}
use lib.ListN.{length, get_or, take, drop}
use lib.Seq.{length-take-le}
use Rattle.std.proofs.lemmas.List.{get_or-take, get_or-drop, length-drop}
use borrow.Author.Tests.{le-leb, lt-leb, leb-true, leb-false, eq-eqb, ne_eqb, eqb-true, eqb-false}
use Rattle.limits.specs.Limits.{most_level, cells}
use Rattle.logic.specs.Each.{each_below}
use Rattle.state_bytes.proofs.Tables.{get_or_table}
use Rattle.state_layout.specs.Codecs.{levels_in}
use Rattle.state_layout.specs.Layout.{unused_at}
use Rattle.state_layout.specs.IsState.{all_of, level_is, unused_bytes_zero}
use Rattle.state_judge.specs.Together.{together}

pub none_together : (b : List ℕ) (at : ℕ) → together b at 0 ≡ 0
unfolding together
none_together b at = refl

pub each_of : (P : ℕ → Bool) → P 0 ≡ true → ((x y : ℕ) → P (bit_or x y) ≡ (P x && P y)) → (b : List ℕ) (at n : ℕ)
    → P (together b at n) ≡ each_below (λ (k : ℕ). P (get_or b (at + k) 0)) n
unfolding together each_below
each_of P none union b at zero = none
each_of P none union b at (suc n) =
    union (together b at n) (get_or b (at + n) 0) ∙ ap (λ (t : Bool). t && P (get_or b (at + n) 0)) (each_of P none union b at n)

-- up to 2 ^ k - 1, a union is exactly when both parts are
up_to_lem : (k x y : ℕ) → leb (bit_or x y) (2 ^ k - 1) ≡ (leb x (2 ^ k - 1) && leb y (2 ^ k - 1))
up_to_lem k x y = go (leb x (2 ^ k - 1)) (leb y (2 ^ k - 1)) refl refl
  where
    left : x ≤ bit_or x y
    left = omega (arith, or_add_and x y, and_le_r x y)

    right : y ≤ bit_or x y
    right = omega (arith, or_add_and x y, and_le_l x y)

    some : 0 < 2 ^ k
    some = pow_pos k

    go : (t u : Bool) → leb x (2 ^ k - 1) ≡ t → leb y (2 ^ k - 1) ≡ u → leb (bit_or x y) (2 ^ k - 1) ≡ (t && u)
    go true true e f =
        let a = leb-true x (2 ^ k - 1) e in
        let b = leb-true y (2 ^ k - 1) f in
        le-leb (bit_or x y) (2 ^ k - 1) (omega (arith, some, or_lt k x y (omega (arith, some)) (omega (arith, some))))
    go true false e f = let b = leb-false y (2 ^ k - 1) f in lt-leb (bit_or x y) (2 ^ k - 1) (omega (arith, right))
    go false u e f = let a = leb-false x (2 ^ k - 1) e in lt-leb (bit_or x y) (2 ^ k - 1) (omega (arith, left))

-- 0 is when both parts are
pub zero_when : (x y : ℕ) → eqb (bit_or x y) 0 ≡ (eqb x 0 && eqb y 0)
zero_when x y = go (eqb x 0) (eqb y 0) refl refl
  where
    left : x ≤ bit_or x y
    left = omega (arith, or_add_and x y, and_le_r x y)

    right : y ≤ bit_or x y
    right = omega (arith, or_add_and x y, and_le_l x y)

    go : (t u : Bool) → eqb x 0 ≡ t → eqb y 0 ≡ u → eqb (bit_or x y) 0 ≡ (t && u)
    go true true e f = let a = eqb-true x 0 e in let b = eqb-true y 0 f in eq-eqb (bit_or x y) 0 (omega (arith, or_add_and x y))
    go true false e f = let b = eqb-false y 0 f in ne_eqb (bit_or x y) 0 (λ z. b (omega (arith, right)))
    go false u e f = let a = eqb-false x 0 e in ne_eqb (bit_or x y) 0 (λ z. a (omega (arith, left)))

pub same_tests : (f g : ℕ → Bool) (n : ℕ) → ((k : ℕ) → k < n → f k ≡ g k) → each_below f n ≡ each_below g n
unfolding each_below
same_tests f g zero e = refl
same_tests f g (suc n) e = ap₂ ◌&&◌ (same_tests f g n (λ k h. e k (omega arith))) (e n (omega arith))

-- a part of a list taken together is what is taken together there
part_below : (b : List ℕ) (at k n : ℕ) → n ≤ k → together (take k (drop at b)) 0 n ≡ together b at n
unfolding together
part_below b at k zero h = refl
part_below b at k (suc n) h =
    let z : 0 + n ≡ n = omega arith in
    ap₂ bit_or (part_below b at k n (omega arith))
    (ap (λ (j : ℕ). get_or (take k (drop at b)) j 0) z ∙ get_or-take k (drop at b) n 0 (omega arith) ∙ get_or-drop at b n 0)

pub part_together : (b : List ℕ) (at k n : ℕ) → k ≡ n → at + n ≤ length b → together (take k (drop at b)) 0 (length (take k (drop at b))) ≡ together b at n
part_together b at k n e h =
    let long : length (take k (drop at b)) ≡ n = length-take-le k (drop at b) (omega (arith, length-drop at b)) ∙ e in
    ap (together (take k (drop at b)) 0) long ∙ part_below b at k n (omega arith)

-- flags or outputs are levels, and the unused bytes are 0
pub levels_together : (b : List ℕ) (at : ℕ) → leb (together b at cells) most_level ≡ all_of level_is (levels_in b at) cells
unfolding levels_in
levels_together b at =
    each_of (λ (x : ℕ). leb x most_level) refl (up_to_lem 1) b at cells
    ∙ same_tests _ _ cells (λ k h. ap (λ (x : ℕ). leb x most_level) (sym (get_or_table cells (λ (j : ℕ). get_or b (at + j) 0) 0 k h)))

pub unused_together : (b : List ℕ) (n : ℕ) → eqb (together b unused_at n) 0 ≡ unused_bytes_zero b n
unused_together b n = each_of (λ (x : ℕ). eqb x 0) refl zero_when b unused_at n

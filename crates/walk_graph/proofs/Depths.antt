-- Laws of sets of depths. The limit on depth is a variable in all of them until the last, so that none is counted out.
use Prim.Native.Nat.{ℕ, zero, suc, ◌+◌, ◌-◌, ◌*◌, ◌/◌, ◌%◌, ◌^◌, ◌<◌, ◌≤◌, max, min}
use mathlib.Core.Path.{◌≡◌, refl, sym, ap, ◌∙◌}
use mathlib.Core.Bool.{Bool, true, false, cond}
use mathlib.Core.Logic.{◌⊎◌, inl, inr}
use native.Mathlib.Nat.{not-suc-le-zero, pow-succ'}
use native.Mathlib.Decide.{ℕ_discrete}
use native.Mathlib.Omega.{arith}
use lib.Bits.{bit_or, or_step, or_add_and, and_le_r, or_lt, block_half, block_odd}
use lib.Count.{count_trailing_zeros, under}
use lib.Dec.{eqb}
use borrow.Author.Tests.{eqb-true, eqb-false}
use Rattle.limits.specs.Limits.{most_depth, depths}
use Rattle.walk_graph.specs.Depths.{sets, deepest, digit, Has, union, deeper, least_from, least_depth}

-- ---- digits

pub digit_two : (s d : ℕ) → digit s d < 2
unfolding digit
digit_two s zero = omega arith
digit_two s (suc d) = digit_two (s / 2) d

digit_zero : (d : ℕ) → digit 0 d ≡ 0
unfolding digit
digit_zero zero = refl
digit_zero (suc d) = digit_zero d

-- nothing is in the empty set
pub none : (d : ℕ) → Has 0 d → ⊥
none d h = omega (arith, digit_zero d)

-- the digits below n of a number with a from digit n on, and digit n
low : (n a r d : ℕ) → d < n → digit (a * 2 ^ n + r) d ≡ digit r d
unfolding digit
low zero a r d h = absurd (not-suc-le-zero h)
low (suc n) a r zero h = block_odd a n r
low (suc n) a r (suc d) h = ap (λ (x : ℕ). digit x d) (block_half a n r) ∙ low n a (r / 2) d (omega arith)

high : (n a r : ℕ) → r < 2 ^ n → digit (a * 2 ^ n + r) n ≡ a % 2
unfolding digit
high zero a r h = let e : r ≡ 0 = omega arith in rw e (omega arith)
high (suc n) a r h =
    let k : r < 2 * 2 ^ n = rw (← pow-succ' 2 n) h in ap (λ (x : ℕ). digit x n) (block_half a n r) ∙ high n a (r / 2) (omega arith)

-- a set of depths below n has none from n on
below : (n s d : ℕ) → s < 2 ^ n → Has s d → d < n
unfolding digit
below zero s d h e = let z : s ≡ 0 = omega arith in absurd (none d (rw z at e))
below (suc n) s zero h e = omega arith
below (suc n) s (suc d) h e = let k : s < 2 * 2 ^ n = rw (← pow-succ' 2 n) h in omega (arith, below n (s / 2) d (omega arith) e)

pub is_depth : (s d : ℕ) → s < sets → Has s d → d < depths
is_depth = below depths

-- a set is its digits
same_below : (n s t : ℕ) → s < 2 ^ n → t < 2 ^ n → ((d : ℕ) → d < n → digit s d ≡ digit t d) → s ≡ t
unfolding digit
same_below zero s t h i f = omega arith
same_below (suc n) s t h i f =
    let k : s < 2 * 2 ^ n = rw (← pow-succ' 2 n) h in
    let l : t < 2 * 2 ^ n = rw (← pow-succ' 2 n) i in
    let e : s % 2 ≡ t % 2 = f 0 (omega arith) in
    let r : s / 2 ≡ t / 2 = same_below n (s / 2) (t / 2) (omega arith) (omega arith) (λ d m. f (suc d) (omega arith)) in
    omega arith

pub same_set : (s t : ℕ) → s < sets → t < sets → ((d : ℕ) → d < depths → digit s d ≡ digit t d) → s ≡ t
same_set = same_below depths

-- ---- the greatest depth, and those above it

whole : (s : ℕ) → s ≡ s / deepest * 2 ^ most_depth + s % deepest
whole s = omega arith

cut : (s d : ℕ) → d < most_depth → digit (s % deepest) d ≡ digit s d
cut s d h = sym (low most_depth (s / deepest) (s % deepest) d h) ∙ ap (λ (x : ℕ). digit x d) (sym (whole s))

at_deepest : (s : ℕ) → digit s most_depth ≡ s / deepest % 2
at_deepest s = ap (λ (x : ℕ). digit x most_depth) (whole s) ∙ high most_depth (s / deepest) (s % deepest) (omega arith)

pub cut_has : (s d : ℕ) → d < most_depth → Has s d → Has (s % deepest) d
cut_has s d h e = cut s d h ∙ e

pub cut_of : (s d : ℕ) → Has (s % deepest) d → (d < most_depth) × Has s d
cut_of s d e = let h = below most_depth (s % deepest) d (omega arith) e in (h, sym (cut s d h) ∙ e)

pub top_has : (s : ℕ) → Has s most_depth → Has (s / deepest * deepest) most_depth
top_has s e =
    let z : s / deepest * deepest ≡ s / deepest * 2 ^ most_depth + 0 = omega arith in
    ap (λ (x : ℕ). digit x most_depth) z ∙ high most_depth (s / deepest) 0 (omega arith) ∙ sym (at_deepest s) ∙ e

pub top_of : (s d : ℕ) → s < sets → Has (s / deepest * deepest) d → (d ≡ most_depth) × Has s d
top_of s d h e = go (ℕ_discrete d most_depth)
  where
    z : s / deepest * deepest ≡ s / deepest * 2 ^ most_depth + 0
    z = omega arith

    go : Dec (d ≡ most_depth) → (d ≡ most_depth) × Has s d
    go (yes i) = (i, rw i (at_deepest s ∙ sym (high most_depth (s / deepest) 0 (omega arith)) ∙ ap (λ (x : ℕ). digit x most_depth) (sym z) ∙ (rw i at e)))
    go (no n) =
        let l = is_depth (s / deepest * deepest) d (omega arith) e in
        absurd (none d (sym (low most_depth (s / deepest) 0 d (omega arith)) ∙ ap (λ (x : ℕ). digit x d) (sym z) ∙ e))

-- ---- one deeper

up : (s d : ℕ) → digit (deeper s) (suc d) ≡ digit (s % deepest) d
unfolding digit
up s d = let e : s % deepest * 2 / 2 ≡ s % deepest = omega arith in ap (λ (x : ℕ). digit x d) e

pub deeper_has : (s d : ℕ) → d < most_depth → Has s d → Has (deeper s) (d + 1)
deeper_has s d h e = let i : d + 1 ≡ suc d = omega arith in rw i (up s d ∙ cut s d h ∙ e)

pub deeper_none : (s : ℕ) → Has (deeper s) 0 → ⊥
unfolding digit
deeper_none s e = omega arith

pub deeper_of : (s d : ℕ) → Has (deeper s) (suc d) → (d < most_depth) × Has s d
deeper_of s d e = cut_of s d (sym (up s d) ∙ e)

-- ---- depth 0

pub ground_is : Has 1 0
unfolding digit
ground_is = refl

pub ground_of : (d : ℕ) → Has 1 d → d ≡ 0
unfolding digit
ground_of zero e = refl
ground_of (suc d) e = absurd (none d e)

pub least_digit : (s : ℕ) → Has s 0 → Has (s % 2) 0
unfolding digit
least_digit s e = omega arith

pub least_digit_of : (s d : ℕ) → Has (s % 2) d → (d ≡ 0) × Has s d
unfolding digit
least_digit_of s zero e = (refl, omega arith)
least_digit_of s (suc d) e = let z : s % 2 / 2 ≡ 0 = omega arith in absurd (none d (rw z at e))

pub others_has : (s d : ℕ) → (d ≡ 0 → ⊥) → Has s d → Has (s - s % 2) d
unfolding digit
others_has s zero n e = absurd (n refl)
others_has s (suc d) n e = let z : (s - s % 2) / 2 ≡ s / 2 = omega arith in rw z e

pub others_of : (s d : ℕ) → Has (s - s % 2) d → (d ≡ 0 → ⊥) × Has s d
unfolding digit
others_of s zero e = absurd (omega arith)
others_of s (suc d) e = let z : (s - s % 2) / 2 ≡ s / 2 = omega arith in (λ n. omega arith, rw z at e)

-- ---- unions

or_digit : (s t d : ℕ) → digit (bit_or s t) d ≡ max (digit s d) (digit t d)
unfolding digit
or_digit s t zero = rw (or_step s t) (omega arith)
or_digit s t (suc d) =
    let e : bit_or s t / 2 ≡ bit_or (s / 2) (t / 2) = rw (or_step s t) (omega arith) in
    ap (λ (x : ℕ). digit x d) e ∙ or_digit (s / 2) (t / 2) d

pub union_over : (s t : ℕ) → s ≤ union s t
union_over s t = omega (arith, or_add_and s t, and_le_r s t)

pub union_under : (s t : ℕ) → s < sets → t < sets → union s t < sets
union_under s t h i = or_lt depths s t h i

pub union_left : (s t d : ℕ) → Has s d → Has (union s t) d
union_left s t d e = omega (arith, or_digit s t d, digit_two t d)

pub union_right : (s t d : ℕ) → Has t d → Has (union s t) d
union_right s t d e = omega (arith, or_digit s t d, digit_two s d)

pub union_of : (s t d : ℕ) → Has (union s t) d → Has s d ⊎ Has t d
union_of s t d e = go (ℕ_discrete (digit s d) 1)
  where
    go : Dec (digit s d ≡ 1) → Has s d ⊎ Has t d
    go (yes k) = inl k
    go (no k) = inr (omega (arith, or_digit s t d, digit_two s d))

-- ---- the least depth

-- it is in the set
pub record Least (n s d : ℕ) : Type 0 where
  pub at : ℕ
  pub less : at < n
  pub has : Has s at
  pub is : least_from n s d ≡ d + at

least_in : (n s d : ℕ) → 0 < s → s < 2 ^ n → Least n s d
unfolding digit least_from
least_in zero s d h i = absurd (omega arith)
least_in (suc n) s d h i = go (eqb (s % 2) 1) refl (least_in n (s / 2) (d + 1))
  where
    k : s < 2 * 2 ^ n
    k = rw (← pow-succ' 2 n) i

    go : (b : Bool) → eqb (s % 2) 1 ≡ b → (0 < s / 2 → s / 2 < 2 ^ n → Least n (s / 2) (d + 1)) → Least (suc n) s d
    go true e rest = record { at = 0; less = omega arith; has = eqb-true (s % 2) 1 e; is = rw e (omega arith) }
    go false e rest =
        let m = eqb-false (s % 2) 1 e in
        let l = rest (omega arith) (omega (arith, k)) in
        record { at = suc l.at; less = omega (arith, l.less); has = l.has; is = rw e (omega (arith, l.is)) }

-- and no depth of the set is less
least_most : (n s d k : ℕ) → k < n → Has s k → least_from n s d ≤ d + k
unfolding digit least_from
least_most zero s d k h e = absurd (not-suc-le-zero h)
least_most (suc n) s d zero h e = rw e (omega arith)
least_most (suc n) s d (suc k) h e = go (eqb (s % 2) 1) (least_most n (s / 2) (d + 1) k (omega arith) e)
  where
    go : (b : Bool) → least_from n (s / 2) (d + 1) ≤ d + 1 + k → cond b d (least_from n (s / 2) (d + 1)) ≤ d + suc k
    go true l = omega arith
    go false l = omega arith

-- digit by digit
-- it is the place of the lowest digit that is 1, or n
least_is : (n k s d : ℕ) → n ≤ k → least_from n s d ≡ d + min (count_trailing_zeros k s) n
unfolding least_from count_trailing_zeros
least_is zero k s d h = omega arith
least_is (suc n) zero s d h = absurd (omega arith)
least_is (suc n) (suc k) s d h = go (s % 2) (omega arith) (least_is n k (s / 2) (d + 1) (omega arith))
  where
    go : (b : ℕ) → b < 2 → least_from n (s / 2) (d + 1) ≡ d + 1 + min (count_trailing_zeros k (s / 2)) n
        → cond (eqb b 1) d (least_from n (s / 2) (d + 1)) ≡ d + min (under b (count_trailing_zeros k (s / 2))) (suc n)
    go zero l e = omega arith
    go (suc zero) l e = omega arith
    go (suc (suc b)) l e = absurd (omega arith)

pub least_depth_is : (s : ℕ) → least_depth s ≡ min (count_trailing_zeros 8 s) depths
least_depth_is s = omega (arith, least_is depths 8 s 0 (omega arith))

module _ (s : ℕ) (some : 0 < s) (small : s < sets) where
  pub least_has : Has s (least_depth s) × (least_depth s < depths)
  least_has =
      let l = least_in depths s 0 some small in
      let e : least_depth s ≡ l.at = omega (arith, l.is) in
      rw e (l.has, l.less)

pub least_least : (s d : ℕ) → s < sets → Has s d → least_depth s ≤ d
least_least s d h e = omega (arith, least_most depths s 0 d (is_depth s d h e) e)

-- it is never past the depths
within : (n s d : ℕ) → least_from n s d ≤ d + n
unfolding least_from
within zero s d = omega arith
within (suc n) s d = go (eqb (s % 2) 1) (within n (s / 2) (d + 1))
  where
    go : (b : Bool) → least_from n (s / 2) (d + 1) ≤ d + 1 + n → cond b d (least_from n (s / 2) (d + 1)) ≤ d + suc n
    go true l = omega arith
    go false l = omega arith

pub least_within : (s : ℕ) → least_depth s ≤ depths
least_within s = omega (arith, within depths s 0)

-- a set that is not empty has a depth
pub some_depth : (s : ℕ) → 0 < s → s < sets → (d : ℕ) × (d < depths) × Has s d
some_depth s h i = let l = least_has s h i in (least_depth s, l.1, l.0)

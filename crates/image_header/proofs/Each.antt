-- A test of each of the first numbers: what `all` over their range answers; and the first numbers of two lists compared from the front, as `==` does.
use Prim.Native.Nat.{ℕ, zero, suc, ◌<◌, ◌≤◌}
use native.Mathlib.Omega.{arith}
use mathlib.Core.Path.{◌≡◌, refl, sym, ap, ◌∙◌}
use mathlib.Core.Bool.{Bool, true, false, ◌&&◌}
use mathlib.Core.List.{List, [], ◌∷◌}
use lib.ListN.{length, get_or, take}
use lib.Dec.{eqb}
use lib.Pointwise.{pointwise}
use Rattle.std.proofs.Math.Bool.{and_assoc}
use Rattle.std.proofs.lemmas.List.FromFn.{length-range_with_len, get_or-range_with_len}
use Rattle.std.specs.Bool.{MatchBool}
use Rattle.std.specs.List.{AllWithin, HoldsAt, range_with_len}
use Rattle.logic.specs.Each.{each_below}
use Rattle.logic.proofs.Choice.{clash}
use Rattle.logic.proofs.Each.{each_passes, all_pass}
use Rattle.image_header.specs.Rows.{first_same}

module _ (test : ℕ → Bool) (n : ℕ) where
  abbrev first : List ℕ
  first = range_with_len 0 n

  is : (k : ℕ) → k < n → get_or first k 0 ≡ k
  is k l = omega (arith, get_or-range_with_len 0 n k 0 l)

  pub each_told : (r : Bool) → MatchBool r (AllWithin (λ k. test k ≡ true) first 0 (length first)) ((k : ℕ) × (k < length first) × HoldsAt (λ k. test k ≡ false) first k)
      → r ≡ each_below test n
  each_told true h = sym (all_pass test n (λ k l. rw (is k l) at (h k 0 (omega arith) (omega (arith, length-range_with_len 0 n)))))
  each_told false h = go (each_below test n) refl
    where
      k : ℕ
      k = h.0

      l : k < n
      l = omega (arith, h.1, length-range_with_len 0 n)

      go : (t : Bool) → each_below test n ≡ t → false ≡ t
      go false e = refl
      go true e = clash (sym (each_passes test n e k l) ∙ rw (is k l) at (h.2 0))

-- the test of the first number stands at the front
each_front : (test : ℕ → Bool) (n : ℕ) → each_below test (suc n) ≡ (test 0 && each_below (λ k. test (suc k)) n)
unfolding each_below
each_front test zero = and_true (test 0)
  where
    and_true : (t : Bool) → t ≡ (t && true)
    and_true true = refl
    and_true false = refl
each_front test (suc n) =
    ap (λ (t : Bool). t && test (suc n)) (each_front test n) ∙ and_assoc (test 0) (each_below (λ k. test (suc k)) n) (test (suc n))

pub first_taken : (n : ℕ) (l m : List ℕ) → n ≤ length l → n ≤ length m → pointwise eqb (take n l) (take n m) ≡ first_same n l m
unfolding each_below
first_taken zero l m h k = refl
first_taken (suc n) [] m h k = absurd (omega arith)
first_taken (suc n) (x ∷ l) [] h k = absurd (omega arith)
first_taken (suc n) (x ∷ l) (y ∷ m) h k =
    ap (λ (t : Bool). eqb x y && t) (first_taken n l m (omega arith) (omega arith)) ∙ sym (each_front (λ j. eqb (get_or (x ∷ l) j 0) (get_or (y ∷ m) j 0)) n)

-- seven tests in another grouping
pub regroup : (f m b c s k l : Bool) → (f && ((m && (b && c)) && (s && (k && l)))) ≡ ((((((f && m) && b) && c) && s) && k) && l)
regroup false m b c s k l = refl
regroup true false b c s k l = refl
regroup true true false c s k l = refl
regroup true true true false s k l = refl
regroup true true true true s k l = sym (and_assoc s k l)

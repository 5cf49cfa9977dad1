-- Membership of a list, as a test and as a fact.
use Prim.Native.Nat.{ℕ}
use mathlib.Core.Path.{◌≡◌, sym}
use mathlib.Core.Bool.{true}
use mathlib.Core.Logic.{◌⊎◌, inl, inr, ⊎_elim}
use mathlib.Core.List.{List, [], ◌∷◌, ◌++◌}
use borrow.Author.Tests.{eqb-true, eq-eqb}
use lib.Dec.{eqb}
use Rattle.logic.proofs.Choice.{clash, or_is, or_right}
use Rattle.walk.specs.Graph.{In, has}

pub has_in : (xs : List ℕ) (q : ℕ) → has xs q ≡ true → In q xs
has_in [] q e = clash (sym e)
has_in (x ∷ xs) q e = ⊎_elim (λ i. inl (eqb-true q x i)) (λ m. inr (has_in xs q m)) (or_is (eqb q x) (has xs q) e)

pub in_has : (xs : List ℕ) (q : ℕ) → In q xs → has xs q ≡ true
in_has [] q m = absurd m
in_has (x ∷ xs) q (inl e) = rw (eq-eqb q x e)
in_has (x ∷ xs) q (inr m) = rw (in_has xs q m) (or_right (eqb q x))

module _ {A : Type 0} where
  pub in_left : (xs ys : List A) (q : A) → In q xs → In q (xs ++ ys)
  in_left [] ys q m = absurd m
  in_left (x ∷ xs) ys q (inl i) = inl i
  in_left (x ∷ xs) ys q (inr m) = inr (in_left xs ys q m)

  pub in_right : (xs ys : List A) (q : A) → In q ys → In q (xs ++ ys)
  in_right [] ys q m = m
  in_right (x ∷ xs) ys q m = inr (in_right xs ys q m)

  pub in_either : (xs ys : List A) (q : A) → In q (xs ++ ys) → In q xs ⊎ In q ys
  in_either [] ys q m = inr m
  in_either (x ∷ xs) ys q (inl i) = inl (inl i)
  in_either (x ∷ xs) ys q (inr m) = ⊎_elim (λ l. inl (inr l)) (λ r. inr r) (in_either xs ys q m)

-- Lists element by element: what holds of every element, two lists that are equal, and a list after a store.
use Prim.Native.Nat.{ℕ, zero, suc, ◌<◌, ◌≤◌}
use mathlib.Core.Path.{◌≡◌, refl, ap, ap₂}
use mathlib.Core.List.{List, [], ◌∷◌}
use native.Mathlib.Omega.{arith}
use lib.ListN.{length, get_or, set}
use native.Mathlib.Decide.{ℕ_discrete}
use lib.Seq.{get_or-set_same, get_or-set_other}

-- ---- every element

infixr 5 ◌&◌
pub data All {A : Type 0} (P : A → Type 0) : List A → Type 0 where
  end : All P []
  ◌&◌ : {x : A} {xs : List A} → P x → All P xs → All P (x ∷ xs)

-- what holds of every element holds of the one at any place, where it holds of what stands past the end
pub at_place : {A : Type 0} (P : A → Type 0) (d : A) → P d → (xs : List A) → All P xs → (n : ℕ) → P (get_or xs n d)
at_place P d p [] All.end n = p
at_place P d p (x ∷ xs) (All.◌&◌ q qs) zero = q
at_place P d p (x ∷ xs) (All.◌&◌ q qs) (suc n) = at_place P d p xs qs n

-- ---- equal lists

infixr 5 ◌◂◌
pub ◌◂◌ : {A : Type 0} {x y : A} {xs ys : List A} → x ≡ y → xs ≡ ys → x ∷ xs ≡ y ∷ ys
e ◂ es = ap₂ ◌∷◌ e es

-- ---- stores

-- what holds of the element stored, and of each other one, holds of each afterwards
pub at_set : {A : Type 0} (d : A) (P : ℕ → A → Type 0) (l : List A) (t : ℕ) (x : A) → t < length l → P t x → ((u : ℕ) → (u ≡ t → ⊥) → P u (get_or l u d))
    → (u : ℕ) → P u (get_or (set l t x) u d)
at_set d P l t x h px other u = go (ℕ_discrete u t)
  where
    go : Dec (u ≡ t) → P u (get_or (set l t x) u d)
    go (yes e) = rw (e, get_or-set_same l t x d h) px
    go (no n) = rw (get_or-set_other l t u x d n) (other u n)

-- a store past the end changes nothing
pub set_past : {A : Type 0} (l : List A) (t : ℕ) (x : A) → length l ≤ t → l ≡ set l t x
set_past [] t x h = refl
set_past (y ∷ l) zero x h = absurd (omega arith)
set_past (y ∷ l) (suc t) x h = ap (λ (m : List _). y ∷ m) (set_past l t x (omega arith))

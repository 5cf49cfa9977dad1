-- Choices by a test: what holds of both ways, and which way was taken.
use mathlib.Core.Path.{◌≡◌, refl, sym, ap, ◌∙◌}
use mathlib.Core.Bool.{Bool, true, false, ◌&&◌, ◌||◌, cond}
use mathlib.Core.Logic.{◌⊎◌, inl, inr}
use Prim.Native.Nat.{ℕ, ◌<◌, ◌≤◌}
use native.Mathlib.Omega.{arith}
use lib.Dec.{T, ltb}
use borrow.Author.Tests.{ltb-true, ltb-false}

-- by cases: a is below b, or not
pub by : {P : Type 0} (a b : ℕ) → (a < b → P) → (b ≤ a → P) → P
by {P} a b f g = split (ltb a b) refl
  where
    split : (t : Bool) → ltb a b ≡ t → P
    split true e = f (ltb-true a b e)
    split false e = g (ltb-false a b e)

-- an arm of a match: a is k there, and the result is f's at k
pub arm : {A B : Type 0} (f : A → B) {a k : A} {r : B} → a ≡ k → r ≡ f k → r ≡ f a
arm f i e = e ∙ sym (ap f i)

pub clash : {A : Type 0} → ◌≡◌ {A = Bool} true false → A
clash e = absurd (let z : ◌≡◌ {A = ℕ} 0 1 = cc in omega arith)

-- both of two
pub both : (a b : Bool) → (a && b) ≡ true → (a ≡ true) × (b ≡ true)
both true b e = (refl, e)
both false b e = clash (sym e)

-- the same of tests that are computed
pub both_hold : (a b : Bool) → T (a && b) → T a × T b
both_hold true b t = (tt, t)
both_hold false b t = absurd t

pub is_true : (a : Bool) → T a → a ≡ true
is_true true t = refl
is_true false t = absurd t

-- one of two
pub or_is : (a b : Bool) → (a || b) ≡ true → (a ≡ true) ⊎ (b ≡ true)
or_is true b e = inl refl
or_is false b e = inr e

pub or_right : (a : Bool) → (a || true) ≡ true
or_right true = refl
or_right false = refl

-- none of two
pub neither : (a b : Bool) → (a || b) ≡ false → (a ≡ false) × (b ≡ false)
neither true b e = clash e
neither false b e = (refl, e)

-- not both of two
pub not_both : (a b : Bool) → (a && b) ≡ false → (a ≡ false) ⊎ (b ≡ false)
not_both true b e = inr e
not_both false b e = inl refl

-- a test that is not true is false
pub not_is : (a : Bool) → (a ≡ true → ⊥) → a ≡ false
not_is true n = absurd (n refl)
not_is false n = refl

-- by cases on a test
pub test : {P : Type 0} (a : Bool) → (a ≡ true → P) → (a ≡ false → P) → P
test true f g = f refl
test false f g = g refl

module _ {A : Type 0} where
  -- what holds of both ways holds of the way taken
  pub either : (P : A → Type 0) (t : Bool) {a b : A} → P a → P b → P (cond t a b)
  either P true h k = h
  either P false h k = k

  -- where f holds of the choice and not of one way, the other way was taken
  pub first_way : (f : A → Bool) (t : Bool) {a b : A} → f b ≡ false → f (cond t a b) ≡ true → (t ≡ true) × (cond t a b ≡ a)
  first_way f true r h = (refl, refl)
  first_way f false r h = clash (sym h ∙ r)

  pub other_way : (f : A → Bool) (t : Bool) {a b : A} → f a ≡ false → f (cond t a b) ≡ true → (t ≡ false) × (cond t a b ≡ b)
  other_way f true r h = clash (sym h ∙ r)
  other_way f false r h = (refl, refl)

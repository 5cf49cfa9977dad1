-- Graphs on numbers: what is reached from a root, computed, and the least of what is reached.
use Rattle.std.specs.Prelude.{ℕ, zero, suc, ◌≡◌, ◌⊎◌, Bool, true, false, ◌||◌, cond, List, [], ◌∷◌, ◌++◌, eqb, ltb}

abbrev pub In : {A : Type 0} → A → List A → Type 0
In q [] = ⊥
In q (x ∷ xs) = (q ≡ x) ⊎ In q xs

abbrev pub has : List ℕ → ℕ → Bool
has [] q = false
has (x ∷ xs) q = eqb q x || has xs q

-- a number that is reached from the root
pub data Reach (next : ℕ → List ℕ) (root : ℕ) : ℕ → Type 0 where
  begin : Reach next root root
  step : (p q : ℕ) → Reach next root p → In q (next p) → Reach next root q

-- The numbers seen, and those that are reached from the numbers to do. One number is taken off per step of fuel. (The cases of an `elim` wait, so
-- that no step is made in vain.)
unfoldable pub closure : (ℕ → List ℕ) → ℕ → List ℕ → List ℕ → List ℕ
closure next zero todo seen = seen
closure next (suc f) [] seen = seen
closure next (suc f) (p ∷ todo) seen = elim (has seen p) [ true ↦ closure next f todo seen | false ↦ closure next f (next p ++ todo) (p ∷ seen) ]

abbrev pub lesser : ℕ → ℕ → ℕ
lesser a b = cond (ltb a b) a b

-- the least key of those that pass a test, `none` where none does
unfoldable pub least : (ℕ → Bool) → (ℕ → ℕ) → ℕ → List ℕ → ℕ
least test key none [] = none
least test key none (p ∷ ps) = cond (test p) (lesser (key p) (least test key none ps)) (least test key none ps)

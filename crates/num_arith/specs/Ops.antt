-- Quotients, comparisons and bits: document 01, "Running", and the conditions of 81 and 89.
use Rattle.std.specs.Prelude.{ℕ, ◌/◌, ◌%◌, ◌^◌, Bool, false, not, cond, List, [], ◌∷◌, eqb, ℤ, pos, negsuc, ◌-ℤ◌, get_or, Option, Some, None}
use Rattle.std.specs.Int.Signed.{lt_z, le_z, quot_z}
use Rattle.std.specs.Int.{Width, w32}
use Rattle.num_arith.specs.Wrap.{word, wrap}

-- whether two numbers are equal
abbrev pub eq_z : ℤ → ℤ → Bool
eq_z (pos a) (pos b) = eqb a b
eq_z (pos a) (negsuc b) = false
eq_z (negsuc a) (pos b) = false
eq_z (negsuc a) (negsuc b) = eqb a b

-- cut toward zero, as quot_z has it; there is none by zero
unfoldable pub quotient : ℤ → ℤ → Option ℤ
quotient a b = cond (eq_z b (pos 0)) None (Some (wrap w32 (quot_z a b)))

-- the conditions, by number from 0: a > b, a < b, a = b, a ≥ b, a ≤ b, a ≠ b;
-- 6: the difference, as it is cut, is not negative; 7: it is negative
abbrev pub conditions : List (ℤ → ℤ → Bool)
conditions =
    (λ a b. lt_z b a) ∷
    (λ a b. lt_z a b) ∷
    (λ a b. eq_z a b) ∷
    (λ a b. le_z b a) ∷
    (λ a b. le_z a b) ∷
    (λ a b. not (eq_z a b)) ∷
    (λ a b. le_z (pos 0) (wrap w32 (a -ℤ b))) ∷
    (λ a b. lt_z (wrap w32 (a -ℤ b)) (pos 0)) ∷
    []

-- whether condition n holds of a and b: none holds that is not in the list
unfoldable pub holds : ℕ → ℤ → ℤ → Bool
holds n = get_or conditions n (λ a b. false)

-- bit n of the pattern of z
unfoldable pub bit_at : Width → ℕ → ℤ → Bool
bit_at w n z = eqb (word w z / 2 ^ n % 2) 1

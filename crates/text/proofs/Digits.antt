-- Decimal digits put to the end of a buffer, the last first.
use Rattle.std.proofs.Common.{◌≡◌, ℕ, zero, suc, ◌+◌, ◌-◌, ◌/◌, ◌%◌, ◌^◌, ◌<◌, ◌≤◌, List, [], ◌∷◌, ◌++◌, length, drop, ap, ◌∙◌, append_assoc, arith}
use Rattle.std.proofs.Math.ListN.{set}
use Rattle.std.proofs.Math.Nat.{pow-suc}
use Rattle.std.proofs.lemmas.List.{drop-set}
use Rattle.text.specs.Text.{digit, decimal_of}
use Rattle.text.proofs.Read.{small, large}

-- a number of two digits or more has room for another, and without its last digit fits what is left
pub room_left : (rest at : ℕ) → 10 ≤ rest → rest < 10 ^ at → (1 < at) × (rest / 10 < 10 ^ (at - 1))
room_left rest zero h few = absurd (omega arith)
room_left rest (suc zero) h few = absurd (omega arith)
room_left rest (suc (suc k)) h few =
    let p = pow-suc 10 (suc k) in
    let last : suc (suc k) - 1 ≡ suc k = omega arith in
    (omega arith, rw last (omega arith))

-- what stands from there on, after a byte is put before a place
put_before : (digits : List ℕ) (at d : ℕ) → 0 < at → at ≤ length digits → drop (at - 1) (set digits (at - 1) d) ≡ d ∷ drop at digits
put_before digits at d pos within =
    let next : (at - 1) + 1 ≡ at = omega arith in
    drop-set digits (at - 1) d (omega arith) ∙ ap (λ (k : ℕ). d ∷ drop k digits) next

module _ (digits : List ℕ) (at : ℕ) (pos : 0 < at) (within : at ≤ length digits) where
  pub one_more : (rest : ℕ) → 10 ≤ rest
      → decimal_of rest ++ drop at digits ≡ decimal_of (rest / 10) ++ drop (at - 1) (set digits (at - 1) (48 + rest % 10))
  one_more rest h =
      rw (put_before digits at (48 + rest % 10) pos within, large rest h) (append_assoc (decimal_of (rest / 10)) (digit (rest % 10) ∷ []) (drop at digits))

  pub first : (rest : ℕ) → rest < 10 → decimal_of rest ++ drop at digits ≡ drop (at - 1) (set digits (at - 1) (48 + rest))
  first rest h = rw (put_before digits at (48 + rest) pos within, small rest h)

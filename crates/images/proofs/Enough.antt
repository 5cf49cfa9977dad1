-- The bytes that are judged have the verdict and the blocks of the whole line.
use mathlib.Core.Path.{◌≡◌}
use mathlib.Core.List.{List}
use Prim.Native.Nat.{ℕ, ◌/◌, ◌≤◌, min}
use native.Mathlib.Omega.{arith}
use lib.ListN.{length, take}
use Rattle.logic.proofs.Choice.{by}
use Rattle.text_verdict.proofs.Beginning.{beginning, beginning_blocks}
use Rattle.text_verdict.specs.Input.{input_length}
use Rattle.walk.specs.Verdict.{verdict_of, accepted_blocks}
use Rattle.text_hex.specs.Hex.{hex_bytes, all_bytes}
use Rattle.text_hex.proofs.Bytes.{first_bytes}

-- as many bytes as there is room for: all of them, or the first of more than any image has
module _ {A : Type 0} (f : List ℕ → A) (begins : (image : List ℕ) (n : ℕ) → input_length ≤ n → f (take n image) ≡ f image) where
  fitting : (line : List ℕ) (room n : ℕ) → n ≡ min (length line / 2) room → input_length ≤ room → f (hex_bytes line n) ≡ f (all_bytes line)
  fitting line room n e h =
      by room (length line / 2)
      (λ l.
      let q : n ≡ room = omega arith in
      rw (q, ← first_bytes line (length line / 2) room (omega arith)) (begins (all_bytes line) room h))
      (λ l. let q : n ≡ length line / 2 = omega arith in rw q)

-- they have the verdict of all
pub enough : (line : List ℕ) (room n marks : ℕ) → n ≡ min (length line / 2) room → input_length ≤ room
    → verdict_of (hex_bytes line n) marks ≡ verdict_of (all_bytes line) marks
enough line room n marks = fitting (λ s. verdict_of s marks) (λ image k. beginning image k marks) line room n

-- and the blocks of all
pub enough_blocks : (line : List ℕ) (room n marks : ℕ) → n ≡ min (length line / 2) room → input_length ≤ room
    → accepted_blocks (hex_bytes line n) marks ≡ accepted_blocks (all_bytes line) marks
enough_blocks line room n marks = fitting (λ s. accepted_blocks s marks) (λ image k. beginning_blocks image k marks) line room n

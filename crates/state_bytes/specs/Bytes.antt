-- Numbers at places of a list of bytes, low byte first, and bytes put there. A place past the end is read as 0, and nothing is put there.
use Rattle.std.specs.Prelude.{ℕ, zero, suc, ◌+◌, ◌*◌, List, [], ◌∷◌, ◌++◌, get_or, set, ℤ}
use Rattle.std.specs.Int.{w32}
use Rattle.std.proofs.Common.{to_z}
use Rattle.num_arith.specs.Wrap.{word}
use Rattle.num_le.specs.LittleEndian.{le_bytes}

-- the number whose n bytes stand from a place on
abbrev pub le_number_at : ℕ → List ℕ → ℕ → ℕ
le_number_at zero s at = 0
le_number_at (suc n) s at = get_or s at 0 + 256 * le_number_at n s (at + 1)

-- the signed number of four bytes there
abbrev pub signed_at : List ℕ → ℕ → ℤ
signed_at s at = to_z w32 (le_number_at 4 s at)

-- the four bytes of a signed number
abbrev pub signed_bytes : ℤ → List ℕ
signed_bytes z = le_bytes 4 (word w32 z)

-- bytes put from a place on
unfoldable pub puts : List ℕ → ℕ → List ℕ → List ℕ
puts s at [] = s
puts s at (x ∷ xs) = puts (set s at x) (at + 1) xs

-- a list by its elements: f 0, f 1, up to f (n - 1)
module _ {A : Type 0} where
  unfoldable pub table : ℕ → (ℕ → A) → List A
  table zero f = []
  table (suc n) f = table n f ++ (f n ∷ [])

-- lists one after the other: f 0, f 1, up to f (n - 1)
unfoldable pub concatenated : ℕ → (ℕ → List ℕ) → List ℕ
concatenated zero f = []
concatenated (suc n) f = concatenated n f ++ f n

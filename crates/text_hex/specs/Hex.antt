-- Bytes as text: two hexadecimal digits for each.
use Rattle.std.specs.Prelude.{ℕ, zero, suc, ◌+◌, ◌*◌, ◌/◌, ◌%◌, List, [], ◌∷◌, ◌++◌, length, get_or}

-- the digits 0 to 9 are the bytes 48 to 57, A to F are 65 to 70
abbrev pub digit_of : ℕ → ℕ
digit_of c = (c % 16 + 9 * (c / 64)) % 16

abbrev pub hex_byte : ℕ → ℕ → ℕ
hex_byte high low = 16 * digit_of high + digit_of low

-- the first n bytes of a line
unfoldable pub hex_bytes : List ℕ → ℕ → List ℕ
hex_bytes line zero = []
hex_bytes line (suc n) = hex_bytes line n ++ (hex_byte (get_or line (2 * n) 0) (get_or line (2 * n + 1) 0) ∷ [])

-- all of them
abbrev pub all_bytes : List ℕ → List ℕ
all_bytes line = hex_bytes line (length line / 2)

-- Text as bytes: decimal, signed and hexadecimal numbers. That each gives its number back is proved in proofs/Read.antt.
use Rattle.std.specs.Prelude.{ℕ, zero, suc, ◌+◌, ◌*◌, ◌-◌, ◌/◌, ◌%◌, ◌<◌, ◌≤◌, cond, List, [], ◌∷◌, ◌++◌, ltb, eqb, ℤ, pos, negsuc, length, get_or}

-- the digits 0 to 9 are the bytes 48 to 57
abbrev pub digit : ℕ → ℕ
digit d = 48 + d

-- the digits of n, of which there are no more than the fuel: those before the last, none where n is below 10, and the last
unfoldable pub digits_of : ℕ → ℕ → List ℕ
digits_of zero n = []
digits_of (suc fuel) n = cond (ltb n 10) [] (digits_of fuel (n / 10)) ++ (digit (n % 10) ∷ [])

-- a number has no more digits than one more than itself
unfoldable pub decimal_of : ℕ → List ℕ
decimal_of n = digits_of (suc n) n

-- a word and a number behind it
abbrev pub labelled : List ℕ → ℕ → List ℕ
labelled word n = word ++ decimal_of n

abbrev pub minus : ℕ
minus = 45

-- a signed number: a minus stands before one below 0
unfoldable pub signed_of : ℤ → List ℕ
signed_of (pos n) = decimal_of n
signed_of (negsuc n) = minus ∷ decimal_of (suc n)

-- the digits A to F are the bytes 65 to 70
abbrev pub hex_digit : ℕ → ℕ
hex_digit d = cond (ltb d 10) (digit d) (55 + d)

-- a byte in two capital hexadecimal digits
unfoldable pub hex_of : ℕ → List ℕ
hex_of b = hex_digit (b / 16) ∷ hex_digit (b % 16) ∷ []

-- the digits of the first n bytes
unfoldable pub hex_first : List ℕ → ℕ → List ℕ
hex_first bs zero = []
hex_first bs (suc n) = hex_first bs n ++ hex_of (get_or bs n 0)

-- of all of them
abbrev pub hex_all : List ℕ → List ℕ
hex_all bs = hex_first bs (length bs)

-- ---- read back

-- digits behind a number v
unfoldable pub value_from : ℕ → List ℕ → ℕ
value_from v [] = v
value_from v (d ∷ ds) = value_from (10 * v + (d - 48)) ds

-- the number of decimal digits
unfoldable pub decimal_value : List ℕ → ℕ
decimal_value ds = value_from 0 ds

-- the number that lies n below 0
abbrev pub below : ℕ → ℤ
below zero = pos 0
below (suc n) = negsuc n

-- the signed number of a text
unfoldable pub signed_value_of : List ℕ → ℤ
signed_value_of [] = pos 0
signed_value_of (b ∷ ds) = cond (eqb b minus) (below (decimal_value ds)) (pos (decimal_value (b ∷ ds)))

-- every byte is a decimal digit
abbrev pub Digits : List ℕ → Type 0
Digits ds = (k : ℕ) → k < length ds → (digit 0 ≤ get_or ds k 0) × (get_or ds k 0 ≤ digit 9)

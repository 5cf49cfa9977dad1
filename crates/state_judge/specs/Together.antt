-- Bytes taken together: each binary digit that one of them has. All are 0 or 1 exactly when that is, and all are 0 when it is 0.
use Rattle.std.specs.Prelude.{ℕ, zero, suc, ◌+◌, List, get_or}
use Rattle.std.specs.Int.Bits.{bit_or}

-- n bytes from a place on
unfoldable pub together : List ℕ → ℕ → ℕ → ℕ
together b at zero = 0
together b at (suc n) = bit_or (together b at n) (get_or b (at + n) 0)

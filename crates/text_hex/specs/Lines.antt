-- Lines of a text.
use Rattle.std.specs.Prelude.{ℕ, zero, suc, ◌+◌, cond, List, eqb, get_or}

-- how many lines end in the first n bytes of a text
unfoldable pub lines_of : List ℕ → ℕ → ℕ
lines_of text zero = 0
lines_of text (suc n) = lines_of text n + cond (eqb (get_or text n 0) 10) 1 0

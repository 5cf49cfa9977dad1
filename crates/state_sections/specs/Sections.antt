-- A buffer as a list of sections, one behind the other, and zeros behind the last.
use Rattle.std.specs.Prelude.{ℕ, zero, suc, ◌+◌, ◌-◌, List, [], ◌∷◌, ◌++◌, replicate}

-- sections one behind the other
unfoldable pub joined : List (List ℕ) → List ℕ
joined [] = []
joined (x ∷ xs) = x ++ joined xs

-- how long they are together, by their lengths
abbrev pub total : List ℕ → ℕ
total [] = 0
total (n ∷ ns) = n + total ns

-- the place of section k: the lengths of those before it, together
abbrev pub offset : List ℕ → ℕ → ℕ
offset ns zero = 0
offset [] (suc k) = 0
offset (n ∷ ns) (suc k) = n + offset ns k

-- the buffer of n bytes that has sections of these lengths
unfoldable pub filled : ℕ → List ℕ → List (List ℕ) → List ℕ
filled n lengths xs = joined xs ++ replicate (n - total lengths) 0

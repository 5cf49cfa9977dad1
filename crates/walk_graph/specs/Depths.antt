-- Sets of depths as numbers: a binary digit for each depth, that of depth 0 the lowest.
use Rattle.std.specs.Prelude.{ℕ, zero, suc, ◌+◌, ◌*◌, ◌/◌, ◌%◌, ◌^◌, ◌≡◌, cond, eqb}
use Rattle.std.specs.Int.Bits.{bit_or}
use Rattle.limits.specs.Limits.{most_depth, depths}

-- how many sets there are, and the set of the greatest depth alone
abbrev pub sets : ℕ
sets = 2 ^ depths

abbrev pub deepest : ℕ
deepest = 2 ^ most_depth

-- the digit of depth d: 1 where d is in s
unfoldable pub digit : ℕ → ℕ → ℕ
digit s zero = s % 2
digit s (suc d) = digit (s / 2) d

abbrev pub Has : ℕ → ℕ → Type 0
Has s d = digit s d ≡ 1

abbrev pub union : ℕ → ℕ → ℕ
union s t = bit_or s t

-- depth 0 alone, where there is any depth at all
abbrev pub ground : ℕ → ℕ
ground s = cond (eqb s 0) 0 1

-- each depth one deeper; the greatest has none below it
abbrev pub deeper : ℕ → ℕ
deeper s = s % deepest * 2

-- the least depth of a set, of those below n from d on; n where there is none
unfoldable pub least_from : ℕ → ℕ → ℕ → ℕ
least_from zero s d = d
least_from (suc n) s d = cond (eqb (s % 2) 1) d (least_from n (s / 2) (d + 1))

abbrev pub least_depth : ℕ → ℕ
least_depth s = least_from depths s 0

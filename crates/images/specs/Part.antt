-- What is printed of the blocks of an accepted image.
use Rattle.std.specs.Prelude.{ℕ, zero, suc, ◌+◌, ◌*◌, ◌%◌, List, length, get_or}
use Rattle.images.specs.declared.Blocks.{Blocks}

-- the first n bytes summed, each place with a weight of its own: powers of 257, modulo the prime 65521
unfoldable pub check_of : List ℕ → ℕ → ℕ
check_of bs zero = 0
check_of bs (suc n) = (257 * check_of bs n + get_or bs n 0) % 65521

-- how many they are, and their sum
abbrev pub part_of : List ℕ → Blocks
part_of bs = record { length = length bs; check = check_of bs (length bs) }

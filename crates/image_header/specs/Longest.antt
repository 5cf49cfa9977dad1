-- How long an image can be: with each number before its blocks at its greatest, and the most blocks.
use Rattle.std.specs.Prelude.{ℕ, zero, suc, ◌+◌, ◌-◌, ◌*◌, cond, List, [], ◌∷◌, ltb, length, get_or}
use Rattle.limits.specs.Limits.{most_blocks, most_landings, block_length}
use Rattle.drive.specs.Types.{types, slot_b, slot_c}
use Rattle.image_header.specs.Rows.{format2, header_count, row_count}

-- the greatest that each number of a header may be: format, type, slots B and C, start, count, landing count
abbrev pub greatest_header : List ℕ
greatest_header =
    format2 ∷ (types - 1) ∷ (length slot_b - 1) ∷ (length slot_c - 1) ∷ (most_blocks - 1) ∷ most_blocks ∷ most_landings ∷ []

-- the greatest that number k may be; a landing block is below the count
abbrev pub greatest : ℕ → ℕ
greatest k = cond (ltb k header_count) (get_or greatest_header k 0) (most_blocks - 1)

-- the bytes that a number up to v may take
abbrev pub size_up_to : ℕ → ℕ
size_up_to v = cond (ltb v 128) 1 2

-- the bytes that the first k numbers may take
abbrev pub longest_first : ℕ → ℕ
longest_first zero = 0
longest_first (suc k) = longest_first k + size_up_to (greatest k)

abbrev pub longest_header : ℕ
longest_header = longest_first row_count

abbrev pub longest_image : ℕ
longest_image = longest_header + block_length * most_blocks

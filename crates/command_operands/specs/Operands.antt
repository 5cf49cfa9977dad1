-- A block's operands, as its code's layout has them: document 01, "The commands carried" (a code byte and D1 to D7, low byte first), and the
-- coding of each page of chapter 4 of 000. Only the unused bytes are judged here (8).
use Rattle.std.specs.Prelude.{ℕ, ◌+◌, ◌*◌, ◌/◌, ◌%◌, Bool, true, ◌&&◌, List, [], ◌∷◌, get_or, drop, eqb, ℤ, pos}
use Rattle.std.specs.Int.{w32}
use Rattle.std.proofs.Common.{to_z}
use Rattle.num_le.specs.LittleEndian.{le_number}
use Rattle.command_table.specs.Rows.{row_of}
use Rattle.command_table.specs.declared.Layout.{Layout}
use Rattle.command_table.specs.declared.Layout.TheVariants.{Bare, Byte, Word, Pair, Triple, TripleWord, ByteWord, Value, ByteValue, PairValue, ValueJump}
use Rattle.command_operands.specs.declared.Command.{Command}

abbrev pub command : ℕ → ℕ → ℕ → ℕ → ℕ → ℤ → Command
command code x y z word value = record { code = code; x = x; y = y; z = z; word = word; value = value }

-- byte k of a block: 0 is the code, 1 to 7 are D1 to D7
abbrev pub byte_at : List ℕ → ℕ → ℕ
byte_at b k = get_or b k 0

-- the number of two bytes from Dk on
abbrev pub word_at : List ℕ → ℕ → ℕ
word_at b k = le_number (byte_at b k ∷ byte_at b (k + 1) ∷ [])

-- the signed number of four bytes from Dk on
abbrev pub value_at : List ℕ → ℕ → ℤ
value_at b k = to_z w32 (le_number (byte_at b k ∷ byte_at b (k + 1) ∷ byte_at b (k + 2) ∷ byte_at b (k + 3) ∷ []))

-- ---- the layouts: operands that a layout does not have are 0

abbrev pub bare_of : List ℕ → Command
bare_of b = command (byte_at b 0) 0 0 0 0 (pos 0)

abbrev pub byte_of : List ℕ → Command
byte_of b = command (byte_at b 0) (byte_at b 1) 0 0 0 (pos 0)

abbrev pub word_of : List ℕ → Command
word_of b = command (byte_at b 0) 0 0 0 (word_at b 1) (pos 0)

abbrev pub pair_of : List ℕ → Command
pair_of b = command (byte_at b 0) (byte_at b 1) (byte_at b 2) 0 0 (pos 0)

abbrev pub triple_of : List ℕ → Command
triple_of b = command (byte_at b 0) (byte_at b 1) (byte_at b 2) (byte_at b 3) 0 (pos 0)

abbrev pub triple_word_of : List ℕ → Command
triple_word_of b = command (byte_at b 0) (byte_at b 1) (byte_at b 2) (byte_at b 3) (word_at b 4) (pos 0)

abbrev pub byte_word_of : List ℕ → Command
byte_word_of b = command (byte_at b 0) (byte_at b 1) 0 0 (word_at b 2) (pos 0)

abbrev pub value_of : List ℕ → Command
value_of b = command (byte_at b 0) 0 0 0 0 (value_at b 1)

abbrev pub byte_value_of : List ℕ → Command
byte_value_of b = command (byte_at b 0) (byte_at b 1) 0 0 0 (value_at b 2)

abbrev pub pair_value_of : List ℕ → Command
pair_value_of b = command (byte_at b 0) (byte_at b 1) (byte_at b 2) 0 0 (value_at b 3)

-- 81 (DECISIONS R6): the condition is the upper half of D6; the address has its upper four bits in the lower half of D6 and the others in D7
abbrev pub value_jump_of : List ℕ → Command
value_jump_of b =
    command (byte_at b 0) (byte_at b 1) (byte_at b 6 / 16) 0 (256 * (byte_at b 6 % 16) + byte_at b 7) (value_at b 2)

abbrev pub laid_out : Layout → List ℕ → Command
laid_out Bare = bare_of
laid_out Byte = byte_of
laid_out Word = word_of
laid_out Pair = pair_of
laid_out Triple = triple_of
laid_out TripleWord = triple_word_of
laid_out ByteWord = byte_word_of
laid_out Value = value_of
laid_out ByteValue = byte_value_of
laid_out PairValue = pair_value_of
laid_out ValueJump = value_jump_of

-- the command of a block
unfoldable pub operands : List ℕ → Command
operands b = laid_out (row_of (byte_at b 0)).layout b

-- how many of D1 to D7 a layout uses: always the first ones
abbrev pub used_bytes : Layout → ℕ
used_bytes Bare = 0
used_bytes Byte = 1
used_bytes Word = 2
used_bytes Pair = 2
used_bytes Triple = 3
used_bytes TripleWord = 5
used_bytes ByteWord = 3
used_bytes Value = 4
used_bytes ByteValue = 5
used_bytes PairValue = 6
used_bytes ValueJump = 7

unfoldable pub all_zero : List ℕ → Bool
all_zero [] = true
all_zero (x ∷ xs) = eqb x 0 && all_zero xs

-- the bytes that a layout does not use are 0
unfoldable pub unused_zero : Layout → List ℕ → Bool
unused_zero layout b = all_zero (drop (1 + used_bytes layout) b)

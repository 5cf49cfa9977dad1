-- The row of an instruction is that of its command's code.
use Prim.Native.Nat.{ℕ}
use mathlib.Core.Path.{◌≡◌, refl, sym, ap}
use mathlib.Core.List.{List}
use Rattle.command_table.specs.Rows.{row_of}
use Rattle.command_table.specs.declared.Layout.{Layout}
use Rattle.command_table.specs.declared.Layout.TheVariants.{Bare, Byte, Word, Pair, Triple, TripleWord, ByteWord, Value, ByteValue, PairValue, ValueJump}
use Rattle.command_operands.specs.Operands.{byte_at, laid_out, operands}
use Rattle.walk.specs.Blocks.{command_at, block_at}
use Rattle.walk_blocks.specs.Instructions.{instruction_of, instruction_at}

-- every layout has the code first
code_of : (layout : Layout) (b : List ℕ) → (laid_out layout b).code ≡ byte_at b 0
code_of Bare b = refl
code_of Byte b = refl
code_of Word b = refl
code_of Pair b = refl
code_of Triple b = refl
code_of TripleWord b = refl
code_of ByteWord b = refl
code_of Value b = refl
code_of ByteValue b = refl
code_of PairValue b = refl
code_of ValueJump b = refl

pub row_of_code : (b : List ℕ) → (instruction_of b).row ≡ row_of (instruction_of b).command.code
unfolding operands
row_of_code b = ap row_of (sym (code_of (row_of (byte_at b 0)).layout b))

pub row_at : (bs : List ℕ) (n : ℕ) → (instruction_at bs n).row ≡ row_of (instruction_at bs n).command.code
unfolding instruction_at
row_at bs n = row_of_code (block_at bs n)

-- and its command is the block's
pub command_is : (bs : List ℕ) (n : ℕ) → (instruction_at bs n).command ≡ command_at bs n
unfolding instruction_at command_at
command_is bs n = refl

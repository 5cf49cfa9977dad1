-- A command with its code's row, as a block has them.
use Rattle.std.specs.Prelude.{ℕ, List}
use Rattle.command_table.specs.Rows.{row_of}
use Rattle.command_operands.specs.Operands.{byte_at, operands}
use Rattle.walk.specs.Blocks.{block_at}
use Rattle.walk_blocks.specs.declared.Instruction.{Instruction}

abbrev pub instruction_of : List ℕ → Instruction
instruction_of block = record { row = row_of (byte_at block 0); command = operands block }

-- of block b
unfoldable pub instruction_at : List ℕ → ℕ → Instruction
instruction_at bs b = instruction_of (block_at bs b)

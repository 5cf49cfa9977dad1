-- The blocks of an image as commands, and what a command breaks at a point.
use Rattle.std.specs.Prelude.{ℕ, ◌+◌, ◌*◌, List, [], ◌∷◌, get_or}
use Rattle.limits.specs.Limits.{block_length}
use Rattle.walk_flow.specs.Terms.{Terms}
use Rattle.command_operands.specs.Operands.{operands}
use Rattle.command_judge.specs.BlockFault.{block_fault, block_fault_number}
use Rattle.command_judge.specs.BlockFault.{BlockResult}
use Rattle.command_operands.specs.declared.Command.{Command}
use Rattle.walk_point.specs.PointFault.{fault_of}
use Rattle.walk_point.specs.declared.Point.{Point}
use Rattle.walk_fault.specs.Fault.{FaultResult}

-- the eight bytes from `at` on; 0 past the end
abbrev pub bytes_from : List ℕ → ℕ → List ℕ
bytes_from bs at =
    get_or bs at 0 ∷ get_or bs (at + 1) 0 ∷ get_or bs (at + 2) 0 ∷ get_or bs (at + 3) 0 ∷
    get_or bs (at + 4) 0 ∷ get_or bs (at + 5) 0 ∷ get_or bs (at + 6) 0 ∷ get_or bs (at + 7) 0 ∷ []

-- the eight bytes of block b
abbrev pub block_at : List ℕ → ℕ → List ℕ
block_at bs b = bytes_from bs (block_length * b)

unfoldable pub command_at : List ℕ → ℕ → Command
command_at bs b = operands (block_at bs b)

-- what is wrong with block b by itself
abbrev pub block_fault_at : Terms → List ℕ → ℕ → BlockResult
block_fault_at terms bs b = block_fault terms.header (block_at bs b)

-- its number: 5 to 8 or 23, 0 for none
abbrev pub block_number : Terms → List ℕ → ℕ → ℕ
block_number terms bs b = block_fault_number (block_fault_at terms bs b)

-- what the command at a point breaks there
unfoldable pub fault_at : Terms → List ℕ → Point → FaultResult
fault_at terms bs p = fault_of terms (command_at bs p.block) p

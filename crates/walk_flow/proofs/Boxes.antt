-- The tasks of every row are boxes of the three: no box is passed over.
use Prim.Native.Nat.{ℕ, ◌^◌, ◌<◌}
use native.Mathlib.Omega.{arith}
use lib.ListN.{length}
use Rattle.command_table.specs.Rows.{row_of}
use Rattle.command_table.proofs.Tasks.{tasks_known}
use Rattle.walk_flow.specs.Permission.{boxes}

pub tasks_boxed : (code : ℕ) → (row_of code).tasks < 2 ^ length (boxes (row_of code).tasks)
tasks_boxed code = let k = tasks_known code in omega arith

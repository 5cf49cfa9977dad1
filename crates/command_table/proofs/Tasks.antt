-- The tasks of every row are a sum of the three, by one computation over the rows: no box is passed over.
use Prim.Native.Nat.{ℕ, ◌≤◌}
use mathlib.Core.Logic.{⊎_elim}
use native.Mathlib.Omega.{arith}
use lib.Dec.{leb}
use borrow.Author.Tests.{leb-true}
use Rattle.command_table.specs.Rows.{BPM, rows, row_in, row_of}
use Rattle.command_table.proofs.EveryRow.{every_row}

pub tasks_known : (code : ℕ) → (row_of code).tasks ≤ BPM
unfolding row_of rows
tasks_known code =
    ⊎_elim (λ e. rw e (omega arith)) (λ e. leb-true (row_in rows code).tasks BPM e) (every_row (λ code r. leb r.tasks BPM) rows tt code)

-- A wait is over exactly when its turns, in cycles of the drive, are at least its time.
use Prim.Native.Nat.{ℕ, ◌*◌, ◌≤◌}
use mathlib.Core.Path.{◌≡◌}
use mathlib.Core.Bool.{true}
use mathlib.Core.Logic.{◌↔◌}
use borrow.Author.Tests.{leb-true, le-leb}
use Rattle.drive.specs.Types.{cycle_of}
use Rattle.state.specs.Wait.{due}

pub due_exactly : (model time turns : ℕ) → (due model time turns ≡ true) ↔ (1000 * time ≤ turns * cycle_of model)
due_exactly model time turns = (leb-true (1000 * time) (turns * cycle_of model), le-leb (1000 * time) (turns * cycle_of model))

-- Parameters as 32-bit numbers.
use Prim.Native.Nat.{ℕ, ◌<◌}
use mathlib.Core.Path.{◌≡◌, ap, ◌∙◌}
use native.Mathlib.Omega.{arith}
use lib.IntN.{pos}
use mir.Syntax.{w32}
use mir.Val.{SFits, to_z, of_z}
use mir.Facts.{to_z-of_z}
use Rattle.command_operands.specs.declared.Command.{Command}
use Rattle.exec_action.specs.Action.{assigning}
use Rattle.exec_action.specs.declared.Action.{Action}

-- a parameter that is stored is the number that it was
pub stored_whole : (c : Command) (n : ℕ) {r : Action} → n < 65536 → r ≡ assigning c (to_z w32 (of_z w32 (pos n))) → r ≡ assigning c (pos n)
stored_whole c n l e = let f : SFits w32 (pos n) = record { sfits = omega arith } in e ∙ ap (assigning c) (to_z-of_z f)

-- A drive has at most n of the first n pins.
use Rattle.std.specs.Prelude.{Ok, Err}
use Prim.Native.Nat.{ℕ, zero, suc, ◌≤◌}
use native.Mathlib.Omega.{arith}
use Rattle.drive.specs.Pins.{pin_of}
use Rattle.drive.specs.declared.Drive.{Drive}
use Rattle.drive_pins.specs.declared.PinKind.{PinKind}
use Rattle.drive.specs.Types.{Presence}
use Rattle.drive.specs.declared.Absence.TheVariants.{BoardMissing, Never}
use Rattle.vectors.specs.Pins.{counted, shown_pin, present_pins}

one : (p : Presence) → counted p ≤ 1
one (Ok _) = omega arith
one (Err BoardMissing) = omega arith
one (Err Never) = omega arith

module _ (d : Drive) (kind : PinKind) where
  pub at_most_one : (pin : ℕ) → shown_pin d kind pin ≤ 1
  unfolding shown_pin
  at_most_one pin = one (pin_of d kind pin)

  pub at_most : (n : ℕ) → present_pins d kind n ≤ n
  unfolding present_pins
  at_most zero = omega arith
  at_most (suc pin) = omega (arith, at_most pin, at_most_one pin)

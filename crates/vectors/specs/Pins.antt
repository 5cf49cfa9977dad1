-- How many of the first pins a drive has, used in one way.
use Rattle.std.specs.Prelude.{ℕ, zero, suc, ◌+◌, Ok, Err}
use Rattle.drive.specs.Pins.{pin_of}
use Rattle.drive.specs.declared.Drive.{Drive}
use Rattle.drive_pins.specs.declared.PinKind.{PinKind}
use Rattle.drive.specs.Types.{Presence}
use Rattle.drive.specs.declared.Absence.TheVariants.{BoardMissing, Never}

abbrev pub counted : Presence → ℕ
counted (Ok _) = 1
counted (Err BoardMissing) = 0
counted (Err Never) = 0

-- 1 where the drive has the pin
unfoldable pub shown_pin : Drive → PinKind → ℕ → ℕ
shown_pin d kind pin = counted (pin_of d kind pin)

-- how many of the pins below n
unfoldable pub present_pins : Drive → PinKind → ℕ → ℕ
present_pins d kind zero = 0
present_pins d kind (suc pin) = present_pins d kind pin + shown_pin d kind pin

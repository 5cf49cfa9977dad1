-- Pins: document 01, "Drive and pins". Whether a drive has a pin follows from the pin's home (crate `drive_pins`).
use Rattle.std.specs.Prelude.{ℕ, Bool, cond, eqb, ltb, Ok, Err}
use Rattle.std.specs.Option.{option_map_or}
use Rattle.drive_pins.specs.Homes.{home_of}
use Rattle.drive_pins.specs.declared.Home.{Home}
use Rattle.drive_pins.specs.declared.Home.TheVariants.{Only631, Others, SlotB, SlotC}
use Rattle.drive_pins.specs.declared.PinKind.{PinKind}
use Rattle.drive.specs.Types.{types, type631, takes_b, takes_c}
use Rattle.drive.specs.declared.Drive.{Drive}
use Rattle.drive.specs.Types.{Presence}
use Rattle.drive.specs.declared.Absence.TheVariants.{BoardMissing, Never}

-- whether a drive has the pins of a board: whether its type could carry the board, the board, and the one that its slot holds
unfoldable pub on_board : Bool → ℕ → ℕ → Presence
on_board could board slot = cond could (cond (eqb slot board) (Ok tt) (Err BoardMissing)) (Err Never)

-- whether a drive has what is at a home
unfoldable pub presence : Drive → Home → Presence
presence d Only631 = cond (eqb d.model type631) (Ok tt) (Err Never)
presence d Others = cond (eqb d.model type631) (Err Never) (cond (ltb d.model types) (Ok tt) (Err Never))
presence d (SlotB b) = on_board (takes_b d.model b) b d.b
presence d (SlotC b) = on_board (takes_c d.model b) b d.c

-- whether a drive has a pin, used in this way: never, where no part has it
unfoldable pub pin_of : Drive → PinKind → ℕ → Presence
pin_of d kind pin = option_map_or (presence d) (home_of kind pin) (Err Never)

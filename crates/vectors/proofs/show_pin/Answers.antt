-- Each arm gives the count of the presence that it was told.
use Rattle.std.proofs.Common.{ap}
use Rattle.vectors.specs.Pins.{counted, shown_pin}
use Rattle.vectors.proofs.show_pin.Goals as goal

pub returns-in_ok-show-in-Ok : goal.returns-in_ok-show-in-Ok
unfolding shown_pin
returns-in_ok-show-in-Ok g c = ap counted c.in-Ok.ensures

pub returns-in_ok-write_all-in-Err-BoardMissing : goal.returns-in_ok-write_all-in-Err-BoardMissing
unfolding shown_pin
returns-in_ok-write_all-in-Err-BoardMissing g c = ap counted (rw c.in-Err-BoardMissing.field-0-is at c.in-Err-BoardMissing.ensures)

pub returns-in-Err-Never : goal.returns-in-Err-Never
unfolding shown_pin
returns-in-Err-Never g c = ap counted (rw c.in-Err-Never.field-0-is at c.in-Err-Never.ensures)

-- `home_of` meets its contract: inputs and outputs are found in their rows, and pin 8 is the output that is read only.
use mathlib.Core.Path.{sym, ◌∙◌}
use Rattle.drive_pins.specs.Homes.{inputs, outputs_written, home_of}
use Rattle.drive_pins.proofs.Homes.{read_8, read_other}
use Rattle.drive_pins.proofs.home_of.Goals as goal

pub returns-in-Input : goal.returns-in-Input
unfolding home_of inputs
returns-in-Input c = rw c.in-Input.is c.home_in.ensures

pub returns-in-OutputWritten : goal.returns-in-OutputWritten
unfolding home_of outputs_written
returns-in-OutputWritten c = rw c.in-OutputWritten.is c.home_in-in-OutputWritten.ensures

pub returns-in-OutputRead : goal.returns-in-OutputRead
unfolding home_of
returns-in-OutputRead c = rw c.in-OutputRead.is (sym (read_8 c.args.pin c.if-pin-eq-READ_ONLY_OUTPUT.true))

pub returns-in-OutputRead-2 : goal.returns-in-OutputRead-2
unfolding home_of outputs_written
returns-in-OutputRead-2 c = rw c.in-OutputRead.is (c.home_in-in-OutputRead-2.ensures ∙ sym (read_other c.args.pin c.if-pin-eq-READ_ONLY_OUTPUT.false))

-- n of the pins so far are the drive's.
use Rattle.std.proofs.Common.{◌≡◌}
use Rattle.vectors.specs.Pins.{present_pins}
use Rattle.vectors.proofs.show_pins.Given as goal

abbrev pub invariant-loop-pin : goal.invariant-loop-pin
invariant-loop-pin g l = l.n ≡ present_pins l.d l.kind l.pin

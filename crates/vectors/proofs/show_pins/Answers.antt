-- A pin more is counted, and of n pins there are at most n.
use Rattle.std.proofs.Common.{◌+◌, refl, ap₂, add-one, arith}
use Rattle.vectors.specs.Pins.{present_pins}
use Rattle.vectors.proofs.Counts.{at_most, at_most_one}
use Rattle.vectors.proofs.show_pins.Goals as goal

pub loop-pin-init : goal.loop-pin-init
unfolding present_pins
loop-pin-init g c = refl

pub overflow_add-n : goal.overflow_add-n
overflow_add-n g c =
    let l = c.loop-pin in
    omega (arith, c.in_ok-n.ensures, at_most c.args.d c.args.kind l.pin, at_most_one c.args.d c.args.kind l.pin)

pub loop-pin-preserved : goal.loop-pin-preserved
unfolding present_pins
loop-pin-preserved g c =
    let l = c.loop-pin in
    rw (add-one l.pin) (ap₂ ◌+◌ l.invariant c.in_ok-n.ensures)

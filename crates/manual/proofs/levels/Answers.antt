-- One more input is high, and four are.
use Rattle.std.proofs.Common.{◌≡◌, ◌-◌, ◌<◌, length, drop, refl, ap, ◌∙◌, length-take, length-drop, arith}
use Rattle.manual.proofs.Ran.{highs, one_high}
use Rattle.manual.proofs.levels.Goals as goal

pub loop-pin-init : goal.loop-pin-init
unfolding highs
loop-pin-init c = refl

pub loop-pin-preserved : goal.loop-pin-preserved
loop-pin-preserved c =
    let e = c.args.entry.now in
    let l = c.loop-pin in
    let k_in : l.pin-index < length e - 5 = omega (arith, length-take (length e - 5) (drop 5 e), c.loop-pin-test.true) in
    one_high e l.levels l.pin-index (length e - 5) k_in l.invariant

pub returns : goal.returns
unfolding highs
returns c =
    let e = c.args.entry.now in
    let l = c.loop-pin in
    let all : l.pin-index ≡ 4 = omega (arith, length-take (length e - 5) (drop 5 e), length-drop 5 e, c.loop-pin-test.false, c.loop-pin.auto.pin-index-end) in
    l.invariant ∙ ap (highs e 5) all

-- `stack_is` meets its contract: after i turns the first i entries are judged.
use native.Mathlib.Omega.{arith}
use native.Mathlib.Numerals.{add-one}
use mathlib.Core.Path.{◌≡◌, refl, ap, ◌∙◌}
use Rattle.limits.specs.Limits.{most_depth}
use Rattle.logic.specs.Each.{each_below}
use Rattle.state_layout.specs.IsState.{all_of, entry_is}
use Rattle.state_judge.proofs.stack_is.Goals as goal

pub loop-i-init : goal.loop-i-init
unfolding each_below
loop-i-init c = refl

pub loop-i-preserved : goal.loop-i-preserved
unfolding each_below
loop-i-preserved c = rw (add-one, c.entry_is-pass.ensures, ← c.loop-i.invariant)

pub returns : goal.returns
returns c =
    let l = c.loop-i in
    let a = c.args in
    let e : l.i ≡ most_depth = omega arith in
    l.invariant ∙ ap (all_of (entry_is a.count a.depth) a.stack.now) e

-- `landings_are` meets its contract: entry by entry as far as the landing count, and the rest together.
use native.Mathlib.Omega.{arith}
use Prim.Native.Nat.{ℕ, ◌+◌, ◌-◌, ◌*◌}
use mathlib.Core.Path.{◌≡◌, sym, ap, ◌∙◌}
use Rattle.limits.specs.Limits.{most_landings}
use Rattle.state_layout.specs.Layout.{landings_at, motion_at}
use Rattle.state_judge.specs.Together.{together}
use Rattle.state_judge.proofs.Union.{part_together}
use Rattle.state_judge.proofs.Landings.{judged_none, judged_more, judged}
use Rattle.state_judge.proofs.landings_are.Goals as goal

pub loop-i-init : goal.loop-i-init
loop-i-init c = judged_none c.args.b.now c.args.header

pub loop-i-preserved : goal.loop-i-preserved
loop-i-preserved c =
    let v = c.loop-i in
    judged_more c.args.b.now c.args.header v.pass _ v.i _ _ v.invariant (omega arith) (omega arith) c.word-block.ensures
    (rw c.from-in-loop-i.ensures at c.landing_fits-pass.ensures)

pub returns : goal.returns
returns c =
    let v = c.loop-i in
    let b = c.args.b.now in
    let n = c.min-n.result in
    let e : v.i ≡ n = omega arith in
    judged b c.args.header v.pass v.before v.i c.together.result v.invariant (λ l. omega arith)
    (c.together.ensures
    ∙ part_together b (landings_at + 2 * n) (motion_at - (landings_at + 2 * n)) (2 * (most_landings - n)) (omega arith) (omega arith)
    ∙ ap (λ (j : ℕ). together b (landings_at + 2 * j) (2 * (most_landings - j))) (sym e))

-- `split_step` meets its contract: too few bytes for the head or the levels, or the step and what is behind it.
use mathlib.Core.Path.{sym, ap, ◌∙◌}
use native.Mathlib.Omega.{arith}
use Prim.Native.Nat.{ℕ}
use mathlib.Core.List.{◌∷◌}
use lib.ListN.{get_or}
use Rattle.machine.specs.Inputs.{inputs_of}
use Rattle.bias_run.specs.Steps.{steps_of}
use Rattle.bias_run.proofs.StepByStep.{none_whole, levels_short, split_front}
use Rattle.bias_run.proofs.split_step.Goals as goal

pub returns-in_err-head-clause-front : goal.returns-in_err-head-clause-front
returns-in_err-head-clause-front c = rw c.from_residual.ensures (none_whole c.args.steps.now (omega (arith, c.in_err-head.ensures.cases)))

pub returns-in_err-levels-clause-front : goal.returns-in_err-levels-clause-front
returns-in_err-levels-clause-front c =
    rw c.from_residual-in_err-levels.ensures
    (levels_short c.args.steps.now c.in_ok-head.head.now c.in_ok-head.behind.now c.in_ok-head.ensures.cases _ (c.from.ensures ∙ c.read_u16-length.ensures)
    c.in_err-levels.ensures.cases)

pub returns-clause-front : goal.returns-clause-front
returns-clause-front c =
    let head = c.in_ok-head.head.now in
    let levels = c.in_ok-levels.levels.now in
    let rest = c.in_ok-levels.rest.now in
    split_front c.args.steps.now head c.in_ok-head.behind.now c.in_ok-head.ensures.cases _ levels rest (c.from.ensures ∙ c.read_u16-length.ensures)
    c.in_ok-levels.ensures.cases
    ∙ ap (λ (task : ℕ). inputs_of task levels (get_or head 4 0) (get_or head 5 0) (get_or head 6 0) ∷ steps_of rest) (sym c.read_u32.ensures)

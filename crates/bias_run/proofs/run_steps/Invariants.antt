-- `bias_run::run_steps` meets its contract: what is left of the steps, from the buffer as it is, ends where all of them from the first buffer end.
use lib.ListN.{length}
use mathlib.Core.Path.{◌≡◌}
use Rattle.proved_demands.specs.Run.{buffer_after}
use Rattle.bias_run.specs.Steps.{steps_of}
use Rattle.bias_run.proofs.run_steps.Given as goal

abbrev pub invariant-loop-step : goal.invariant-loop-step
invariant-loop-step l = buffer_after l.image l.state (steps_of l.left) ≡ buffer_after l.image l.initial.state (steps_of l.steps)

abbrev pub decreases-loop-step : goal.decreases-loop-step
decreases-loop-step l = length l.left

-- `bias_run::run_steps` meets its contract: the first step takes the buffer to where what is left goes on, and where no step stands whole nothing is left.
use mathlib.Core.Path.{sym, ap, ◌∙◌}
use Rattle.bias_run.specs.Steps.{steps_of}
use Rattle.proved_demands.specs.Run.{buffer_after}
use Rattle.bias_run.proofs.run_steps.Goals as goal

pub loop-step-preserved : goal.loop-step-preserved
unfolding buffer_after
loop-step-preserved c =
    let image = c.args.image.now in
    (λ ι. buffer_after image (c.bias_step.ensures.state_after ι) (steps_of c.in-Some.rest.now))
    ∙ sym (ap (buffer_after image c.loop-step.state) c.in-Some.ensures.front)
    ∙ c.loop-step.invariant

-- `bias_run::bias_run` meets its contract: the load decides, and where it answers 0 the run is one that the theorem speaks of.
use lib.ListN.{length}
use mathlib.Core.List.{List}
use mathlib.Core.Path.{ap, ◌∙◌}
use Prim.Native.Nat.{ℕ}
use Rattle.proved_demands.specs.Run.{buffer_after}
use Rattle.bias_run.specs.Steps.{steps_of}
use Rattle.bias_run.proofs.StepByStep.{refused, accepted, theorem}
use Rattle.bias_run.proofs.bias_run.Goals as goal

pub returns-then-verdict-ne0 : goal.returns-then-verdict-ne0
returns-then-verdict-ne0 c =
    let a = c.args in
    let l = c.bias_load-verdict.ensures in
    let n = length a.marks.now in
    record {
      value = l.value;
      state_after = l.state_after ∙ refused a.image.now n a.state.now a.steps.now _ l.value c.if-verdict-ne0.true;
      after = l.after;
      run = theorem a.image.now n a.state.now a.steps.now _ l.value
          (λ k. (c.shared_slice_known-1.given k).fits);
    }

pub returns : goal.returns
returns c =
    let a = c.args in
    let l = c.bias_load-verdict.ensures in
    let n = length a.marks.now in
    record {
      value = l.value;
      state_after = c.run_steps.ensures
          ∙ ap (λ (b : List ℕ). buffer_after a.image.now b (steps_of a.steps.now)) l.state_after
          ∙ accepted a.image.now n a.state.now a.steps.now _ l.value c.if-verdict-ne0.false;
      after = l.after;
      run = theorem a.image.now n a.state.now a.steps.now _ l.value
          (λ k. (c.shared_slice_known-1.given k).fits);
    }

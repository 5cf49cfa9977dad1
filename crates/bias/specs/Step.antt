-- What `bias_step` answers and leaves of the lent state buffer (document 01: 15 in "Refused because of the input", the rest in "Running"): 15 first, then
-- 16; then the step of the state that the buffer holds, which is refused by 18 and 17 or carried out.
use Rattle.std.specs.Prelude.{ℕ, cond, List, eqb, ltb, length, None, Err}
use Rattle.limits.specs.Limits.{task_count, inputs_length}
use Rattle.state_layout.specs.Layout.{decoded, encoded}
use Rattle.state_layout.specs.IsState.{is_state}
use Rattle.machine.specs.Inputs.{Inputs}
use Rattle.machine.specs.Engine.{step}
use Rattle.machine.specs.declared.StepOut.{StepOut}
use Rattle.machine.specs.declared.NotDone.TheVariants.{NoTask, Inputs as BadInputs}
use Rattle.bias_results.specs.Results.{no_state_answer, answer_for}
use Rattle.bias_results.specs.declared.BiasAnswer.{BiasAnswer}

pub record Stepped : Type 0 where
  pub answer : BiasAnswer
  pub buffer : List ℕ

-- refused: the buffer stays
abbrev pub refuse_step : BiasAnswer → List ℕ → Stepped
refuse_step a b = record { answer = a; buffer = b }

-- what a step of the state hands out, and the bytes of the state after it
unfoldable pub handed : StepOut → Stepped
handed o = record { answer = answer_for o.request o.answer; buffer = encoded o.state }

-- the step of a buffer
unfoldable pub step_state : List ℕ → List ℕ → Inputs → Stepped
step_state image b x = cond (is_state b) (handed (step image (decoded b) x)) (refuse_step no_state_answer b)

unfoldable pub stepped : List ℕ → List ℕ → Inputs → Stepped
stepped image b x =
    cond (ltb x.task task_count)
    (cond (eqb (length x.levels) inputs_length) (step_state image b x) (refuse_step (answer_for None (Err (BadInputs (length x.levels)))) b))
    (refuse_step (answer_for None (Err (NoTask x.task))) b)

-- `bias::bias_step` meets its contract: 15, then the step of the buffer.
use Rattle.bias.proofs.ByTest.{no_task_lem, bad_inputs_lem, of_buffer, no_state_lem, other_length, step_refused}
use Rattle.bias.specs.Step.{Stepped, step_state, stepped}
use Rattle.machine.specs.Inputs.{inputs_of}
use mathlib.Core.List.{List}
use Prim.Native.Nat.{ℕ}
use mathlib.Core.Path.{◌≡◌, sym, ap, ◌∙◌}
use Rattle.bias.proofs.bias_step.Goals as goal

pub returns-then-task-ge-TASK_COUNT : goal.returns-then-task-ge-TASK_COUNT
returns-then-task-ge-TASK_COUNT c =
    let a = c.args in
    let r = step_refused _ _ _ _ (no_task_lem a.image.now a.state.now (inputs_of a.task a.inputs.now a.start a.ramp_ended a.in_window)
    c.if-task-ge-TASK_COUNT.true) c.answer.ensures in
    record { value = r.0; state_after = r.1 }

pub returns-then-n-ne-INPUTS_LENGTH : goal.returns-then-n-ne-INPUTS_LENGTH
returns-then-n-ne-INPUTS_LENGTH c =
    let a = c.args in
    let r = step_refused _ _ _ _ (bad_inputs_lem a.image.now a.state.now (inputs_of a.task a.inputs.now a.start a.ramp_ended a.in_window)
    c.if-task-ge-TASK_COUNT.false c.if-n-ne-INPUTS_LENGTH.true) c.answer-then-n-ne-INPUTS_LENGTH.ensures in
    record { value = r.0; state_after = r.1 }

pub step_buffer-requires : goal.step_buffer-requires
step_buffer-requires c =
    record {
      task_in_range = c.if-task-ge-TASK_COUNT.false;
      inputs_len = c.if-n-ne-INPUTS_LENGTH.false;
    }

pub returns-in_default : goal.returns-in_default
returns-in_default c =
    let a = c.args in
    let x = inputs_of a.task a.inputs.now a.start a.ramp_ended a.in_window in
    let e = of_buffer a.image.now a.state.now x c.if-task-ge-TASK_COUNT.false c.if-n-ne-INPUTS_LENGTH.false
    ∙ no_state_lem a.image.now a.state.now x (other_length a.state.now c.in_default.ensures.cases) in
    let r = step_refused _ _ _ _ e c.no_state.ensures in
    record { value = r.0; state_after = r.1 }

pub returns : goal.returns
returns c =
    let a = c.args in
    let x = inputs_of a.task a.inputs.now a.start a.ramp_ended a.in_window in
    let w = c.in-Some.ensures.cases in
    let e = of_buffer a.image.now a.state.now x c.if-task-ge-TASK_COUNT.false c.if-n-ne-INPUTS_LENGTH.false in
    let s = c.step_buffer.ensures in
    let f : step_state a.image.now _ x ≡ stepped a.image.now a.state.now x = ap (λ (b : List ℕ). step_state a.image.now b x) w.same ∙ sym e in
    record {
      value = s.value ∙ ap (λ (m : Stepped). m.answer) f;
      state_after = s.state_after ∙ ap (λ (m : Stepped). m.buffer) f;
    }

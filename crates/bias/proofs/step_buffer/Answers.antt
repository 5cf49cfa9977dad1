-- `bias::step_buffer` meets its contract: 16, then 18 and 17, then the command.
use mathlib.Core.Path.{sym, ap, ◌∙◌}
use native.Mathlib.Omega.{arith}
use Rattle.num_le.specs.LittleEndian.{Bytes}
use Rattle.machine.specs.Inputs.{inputs_of}
use Rattle.bias.specs.Step.{Stepped}
use Rattle.bias.proofs.ByTest.{no_state_lem, of_state, step_refused}
use Rattle.bias.proofs.OfState.{refused_is, ready_of, blocks_of_lem, few_landings, as_many, zeros_behind, whole}
use Rattle.bias.proofs.step_buffer.Goals as goal

pub returns-then-not-is_state : goal.returns-then-not-is_state
returns-then-not-is_state c =
    let a = c.args in
    let r = step_refused _ _ _ _ (no_state_lem a.image.now a.state.now (inputs_of a.t a.inputs.now a.start a.ramp_ended a.in_window) (sym
    c.is_state.ensures ∙ c.if-not-is_state.true))
    c.no_state.ensures in
    record { value = r.0; state_after = r.1 }

pub landings_in-landings-requires : goal.landings_in-landings-requires
landings_in-landings-requires c =
    let b = c.args.state.now in
    let bytes : Bytes b = c.fits-state in
    let holds = sym c.is_state.ensures ∙ c.if-not-is_state.false in
    let read = c.header_in-header.ensures in
    record {
      b_len = omega arith;
      count_in_range = few_landings b bytes holds _ read;
      zeros_behind = zeros_behind b bytes holds _ read;
    }

pub slice_bounds-landings-end : goal.slice_bounds-landings-end
slice_bounds-landings-end c =
    omega (arith, few_landings c.args.state.now c.fits-state (sym c.is_state.ensures ∙ c.if-not-is_state.false) _ c.header_in-header.ensures)

pub slice_bounds-carry_out-end : goal.slice_bounds-carry_out-end
slice_bounds-carry_out-end c =
    rw c.from-n.ensures
    (as_many c.args.state.now c.fits-state (sym c.is_state.ensures ∙ c.if-not-is_state.false) _ c.header_in-header.ensures _ c.landings_in-landings.ensures)

pub carry_out-requires : goal.carry_out-requires
carry_out-requires c =
    let a = c.args in
    let read = c.header_in-header.ensures in
    let list = c.landings_in-landings.ensures in
    record {
      state_value = sym c.is_state.ensures ∙ c.if-not-is_state.false;
      task_in_range = c.requires.task_in_range;
      header_value = read;
      landings_value = rw c.from-n.ensures (blocks_of_lem a.state.now _ _ read list);
      task_value = c.task_at-task.ensures;
      c_value = sym c.in-Ok.is ∙ ready_of a.state.now a.image.now _ _ _ _ _ read list c.ready_for.ensures;
    }

pub returns-in-Err : goal.returns-in-Err
returns-in-Err c =
    let a = c.args in
    let x = inputs_of a.t a.inputs.now a.start a.ramp_ended a.in_window in
    let holds = sym c.is_state.ensures ∙ c.if-not-is_state.false in
    let e = of_state a.image.now a.state.now x holds
    ∙ refused_is a.state.now c.fits-state holds a.image.now x c.requires.task_in_range _ _ c.requires.inputs_len
    c.task_at-task.ensures
    (sym c.in-Err.is ∙ ready_of a.state.now a.image.now _ _ _ _ _ c.header_in-header.ensures c.landings_in-landings.ensures
    c.ready_for.ensures) in
    let r = step_refused _ _ _ _ e c.answer.ensures in
    record { value = r.0; state_after = r.1 }

pub returns-in-Ok : goal.returns-in-Ok
returns-in-Ok c =
    let a = c.args in
    let x = inputs_of a.t a.inputs.now a.start a.ramp_ended a.in_window in
    let holds = sym c.is_state.ensures ∙ c.if-not-is_state.false in
    let r = c.carry_out.ensures in
    let e = whole a.state.now a.image.now x _ c.task_at-task.ensures holds c.requires.task_in_range c.requires.inputs_len in
    record {
      value = r.value ∙ ap (λ (m : Stepped). m.answer) e;
      state_after = r.state_after ∙ ap (λ (m : Stepped). m.buffer) e;
    }

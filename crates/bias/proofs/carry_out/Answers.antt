-- `bias::carry_out` meets its contract: its parts are those of the engine's step.
use mathlib.Core.Path.{◌≡◌, sym, ap, subst, ◌∙◌}
use mathlib.Core.List.{List}
use Prim.Native.Nat.{ℕ}
use lib.IntN.{ℤ}
use Rattle.num_le.specs.LittleEndian.{Bytes}
use Rattle.state.specs.Change.{cells_of, values_of}
use Rattle.state.specs.declared.Motion.{Motion}
use Rattle.state.specs.declared.Notes.{Notes}
use Rattle.machine.specs.Inputs.{inputs_of}
use Rattle.machine.specs.DepthAllows.{DepthAllows}
use Rattle.machine.specs.declared.Effect.{Effect}
use Rattle.bias.specs.Step.{Stepped}
use Rattle.bias.proofs.OfState.{task_room, depth_allows, carried_is}
use Rattle.bias.proofs.carry_out.Goals as goal

-- values are those of their parts

values_of_lem : {vs vs' : List ℤ} {fs fs' os os' : List ℕ} {m m' : Motion} {n n' : Notes} → vs ≡ vs' → fs ≡ fs' → os ≡ os' → m ≡ m' → n ≡ n'
    → values_of (cells_of vs fs os) m n ≡ values_of (cells_of vs' fs' os') m' n'
values_of_lem ev ef eo em en = λ ι. values_of (cells_of (ev ι) (ef ι) (eo ι)) (em ι) (en ι)

pub action_of-action-requires : goal.action_of-action-requires
action_of-action-requires c =
    let a = c.args in
    (task_room a.state.now c.fits-state c.requires.state_value a.image.now
    (inputs_of a.t a.inputs.now a.start a.ramp_ended a.in_window) c.requires.task_in_range a.task a.c
    c.requires.task_value c.requires.c_value).turns

pub after-after-requires : goal.after-after-requires
after-after-requires c =
    let a = c.args in
    let bytes : Bytes a.state.now = c.fits-state in
    let x = inputs_of a.t a.inputs.now a.start a.ramp_ended a.in_window in
    record {
      block_in_range = (task_room a.state.now bytes c.requires.state_value a.image.now x c.requires.task_in_range a.task a.c c.requires.task_value c.requires.c_value).block;
      depth_allows = subst (λ (e : Effect). DepthAllows a.task.depth e.outcome) (sym c.action_of-action.ensures)
          (depth_allows a.state.now bytes c.requires.state_value a.image.now x c.requires.task_in_range a.task a.c c.requires.task_value c.requires.c_value _ _ _ _);
    }

pub returns : goal.returns
returns c =
    let a = c.args in
    let e = carried_is a.state.now
    c.fits-state c.requires.state_value a.image.now (inputs_of a.t a.inputs.now a.start a.ramp_ended a.in_window)
    c.requires.task_in_range a.task a.c
    c.requires.task_value c.requires.c_value c.action_of-action.result _ _ _ _ _ _ _ _ _ _ _ _
    c.requires.header_value c.requires.landings_value c.tasks_in-tasks.ensures
    (values_of_lem c.variables_in-variables.ensures c.flags_in-flags.ensures c.outputs_in-outputs.ensures c.motion_in-motion_before.ensures c.notes_in-notes_before.ensures)
    c.action_of-action.ensures c.make_change-motion.ensures.outputs_after c.make_change-motion.ensures.value c.notes_after-notes.ensures c.after-after.ensures c.point_of.ensures
    c.answer_to-answer.ensures in
    record {
      value = c.answer.ensures ∙ ap (λ (m : Stepped). m.answer) (sym e);
      state_after = c.encode_parts.ensures ∙ ap (λ (m : Stepped). m.buffer) (sym e);
    }

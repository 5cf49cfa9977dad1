-- Eight groups, one behind the other.
use Rattle.std.proofs.Common.{true}
use Rattle.std.proofs.lemmas.Result.{IfOk-weaker}
use Rattle.limits.specs.Limits.{bias, plc, mathematics, cells}
use Rattle.state_layout.specs.Codecs.{task_length}
use Rattle.state_layout.specs.Layout.{variables_at, flags_at, outputs_at, task_place}
use Rattle.text_step.specs.Changes.{same, same_cells, same_axis, same_starts, unchanged}
use Rattle.text_step.proofs.Shown.{then}
use Rattle.text_step.proofs.Buffers.show_changes.Goals as goal

pub returns : goal.returns
unfolding unchanged
returns g c =
    let a = c.args.self.now.before.now in
    let b = c.args.self.now.after.now in
    let variables = c.in_ok-variables in
    let flags = c.in_ok-flags in
    let outputs = c.in_ok-outputs in
    let axis = c.in_ok-axis in
    let starts = c.in_ok-starts in
    let first = c.in_ok-bias in
    let second = c.in_ok-plc in
    IfOk-weaker c.show_task-3.result _ _
    (λ last e.
    then true (same_cells a b variables_at 4 cells) _ variables.variables variables.ensures
    (then variables.variables (same_cells a b flags_at 1 cells) _ flags.flags flags.ensures
    (then flags.flags (same_cells a b outputs_at 1 cells) _ outputs.outputs outputs.ensures
    (then outputs.outputs (same_axis a b) _ axis.axis axis.ensures
    (then axis.axis (same_starts a b) _ starts.starts starts.ensures
    (then starts.starts (same a b (task_place bias) task_length) _ first.bias first.ensures
    (then first.bias (same a b (task_place plc) task_length) (same a b (task_place mathematics) task_length)
    second.plc second.ensures e)))))))
    c.show_task-3.ensures

-- One start behind the other.
use Rattle.std.proofs.Common.{◌≡◌, ◌+◌, ◌&&◌}
use Rattle.std.proofs.lemmas.Result.{IfOk-weaker}
use Rattle.state_layout.specs.Layout.{starts_at}
use Rattle.text_step.specs.Changes.{same, same_starts}
use Rattle.text_step.proofs.Shown.{then}
use Rattle.text_step.proofs.Buffers.show_starts.Goals as goal

pub returns : goal.returns
unfolding same_starts
returns g c =
    let a = c.args in
    IfOk-weaker c.show_cell-2.result (λ given. given ≡ (c.in_ok-plc.plc && same a.self.now.before.now a.self.now.after.now (starts_at + 2) 2)) _
    (λ last e. then a.nothing (same a.self.now.before.now a.self.now.after.now starts_at 2) (same a.self.now.before.now a.self.now.after.now (starts_at + 2) 2) c.in_ok-plc.plc c.in_ok-plc.ensures e)
    c.show_cell-2.ensures

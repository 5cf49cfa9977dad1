-- Seven parts, one behind the other.
use Rattle.std.proofs.Common.{ℕ, ◌+◌, Bool}
use Rattle.std.proofs.lemmas.Result.{IfOk-weaker}
use Rattle.state_layout.specs.Layout.{motion_at, notes_at}
use Rattle.text_step.specs.Changes.{same, same_axis}
use Rattle.text_step.proofs.Shown.{then}
use Rattle.text_step.proofs.Buffers.show_axis.Goals as goal

pub returns : goal.returns
unfolding same_axis
returns g c =
    let a = c.args in
    let s : ℕ → ℕ → Bool = same a.self.now.before.now a.self.now.after.now in
    let position = c.in_ok-position in
    let speed = c.in_ok-speed in
    let acceleration = c.in_ok-acceleration in
    let deceleration = c.in_ok-deceleration in
    let mark = c.in_ok-mark in
    let level = c.in_ok-level in
    IfOk-weaker c.show_number-7.result _ _
    (λ last e.
    then a.nothing (s motion_at 4) _ position.position position.ensures
    (then position.position (s (motion_at + 4) 2) _ speed.speed speed.ensures
    (then speed.speed (s (motion_at + 6) 2) _ acceleration.acceleration acceleration.ensures
    (then acceleration.acceleration (s (motion_at + 8) 2) _ deceleration.deceleration deceleration.ensures
    (then deceleration.deceleration (s (motion_at + 10) 1) _ mark.mark mark.ensures
    (then mark.mark (s notes_at 1) (s (notes_at + 1) 1) level.level level.ensures e))))))
    c.show_number-7.ensures

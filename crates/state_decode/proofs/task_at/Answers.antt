-- `state_decode::task_at` meets its contract: the record at its place, with its start.
use mathlib.Core.Path.{◌≡◌, refl, ◌∙◌}
use mathlib.Core.List.{List}
use Prim.Native.Nat.{ℕ, zero, suc, ◌+◌, ◌*◌, ◌<◌}
use native.Mathlib.Omega.{arith}
use Rattle.limits.specs.Limits.{task_count}
use Rattle.state.specs.State.{task_at}
use Rattle.state_layout.specs.Codecs.{task_length, task_in}
use Rattle.state_layout.specs.Layout.{tasks_at, decoded}
use Rattle.state_decode.proofs.task_at.Goals as goal

task_read : (b : List ℕ) (t : ℕ) → t < task_count → task_in b (tasks_at + t * task_length) (task_at (decoded b) t).start ≡ task_at (decoded b) t
unfolding decoded
task_read b zero l = refl
task_read b (suc zero) l = refl
task_read b (suc (suc zero)) l = refl
task_read b (suc (suc (suc t))) l = absurd (omega arith)

pub returns : goal.returns
returns c = c.task_in.ensures ∙ rw (c.from.ensures, c.start_of.ensures) (task_read c.args.b.now c.args.t c.requires.task_in_range)

-- `state_decode::start_of` meets its contract, task by task.
use Prim.Native.Nat.{ℕ, zero, suc, ◌+◌, ◌-◌, ◌*◌, ◌<◌}
use mathlib.Core.Path.{◌≡◌, ◌∙◌, refl}
use mathlib.Core.List.{List}
use native.Mathlib.Omega.{arith}
use Rattle.limits.specs.Limits.{task_count}
use Rattle.state.specs.State.{task_at}
use Rattle.state_bytes.specs.Bytes.{le_number_at}
use Rattle.state_layout.specs.Layout.{starts_at, decoded}
use Rattle.state_decode.proofs.start_of.Goals as goal

start_read : (b : List ℕ) (t : ℕ) → (0 < t) → t < task_count → le_number_at 2 b (starts_at + 2 * (t - 1)) ≡ (task_at (decoded b) t).start
unfolding decoded
start_read b zero l h = absurd (omega arith)
start_read b (suc zero) l h = refl
start_read b (suc (suc zero)) l h = refl
start_read b (suc (suc (suc t))) l h = absurd (omega arith)

pub returns-then-t-eq-BIAS : goal.returns-then-t-eq-BIAS
unfolding decoded
returns-then-t-eq-BIAS c = c.word.ensures ∙ rw c.if-t-eq-BIAS.true

pub returns : goal.returns
returns c = rw c.from.ensures at c.word-2.ensures ∙ start_read c.args.b.now c.args.t (omega arith) c.requires.task_in_range

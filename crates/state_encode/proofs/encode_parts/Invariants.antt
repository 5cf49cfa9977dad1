-- `encode_parts` meets its contract: after t turns the records of t tasks are put.
use Prim.Native.Nat.{ℕ, zero, suc}
use mathlib.Core.Path.{◌≡◌}
use mathlib.Core.List.{List}
use lib.ListN.{get_or}
use Rattle.state.specs.State.{no_task}
use Rattle.state.specs.declared.Task.{Task}
use Rattle.state_bytes.specs.Bytes.{puts}
use Rattle.state_layout.specs.Codecs.{task_bytes}
use Rattle.state_layout.specs.Layout.{task_place}
use Rattle.state_encode.proofs.encode_parts.Given as goal

-- the first n tasks put
abbrev pub tasks_put : List ℕ → List Task → ℕ → List ℕ
tasks_put b tasks zero = b
tasks_put b tasks (suc n) = puts (tasks_put b tasks n) (task_place n) (task_bytes (get_or tasks n no_task))

abbrev pub invariant-loop-t : goal.invariant-loop-t
invariant-loop-t l = l.b ≡ tasks_put l.initial.b l.fn.tasks l.t

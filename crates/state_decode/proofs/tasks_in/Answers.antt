-- `state_decode::tasks_in` meets its contract, task by task.
use Rattle.state_layout.specs.Layout.{decoded}
use Rattle.state_decode.proofs.tasks_in.Goals as goal

pub returns : goal.returns
unfolding decoded
returns c = rw (c.task_at-3.ensures, c.task_at-2.ensures, c.task_at.ensures)

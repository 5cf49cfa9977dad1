-- `put` meets its contract: past the third task nothing is put.
use Rattle.std.proofs.Common.{arith}
use Rattle.logic.proofs.Lists.{set_past}
use Rattle.exec_tasks.proofs.put.Goals as goal

pub returns-else-place-lt-TASKS : goal.returns-else-place-lt-TASKS
returns-else-place-lt-TASKS c = let a = c.args in set_past a.tasks a.t a.task (omega arith)

-- What stands against a step, or the command that it carries out; and what a command reads, by its parts.
use Rattle.std.specs.Prelude.{ℕ, Bool, ◌&&◌, cond, List, Result, Ok, Err, eqb}
use Rattle.drive.specs.declared.Drive.{Drive}
use Rattle.image_header.specs.Scan.{blocks_of}
use Rattle.image_header.specs.declared.Header.{Header}
use Rattle.command_operands.specs.declared.Command.{Command}
use Rattle.command_judge.specs.BlockFault.{block_fault, block_fault_number}
use Rattle.walk_flow.specs.Terms.{Terms, by_header}
use Rattle.walk_fault.specs.Fault.{fault_number}
use Rattle.walk_point.specs.PointFault.{fault_of}
use Rattle.walk_point.specs.declared.Point.{Point}
use Rattle.walk.specs.Blocks.{command_at}
use Rattle.state.specs.State.{runs}
use Rattle.state.specs.declared.Task.{Task}
use Rattle.machine.specs.Inputs.{level}
use Rattle.machine.specs.Engine.{fits, point_of}
use Rattle.machine.specs.declared.Context.{Context}
use Rattle.machine.specs.declared.NotDone.{NotDone}
use Rattle.machine.specs.declared.NotDone.TheVariants.{NotRunning, Differs}

-- 18, then 17, then the command at the task's block
unfoldable pub ready_for : List ℕ → Terms → ℕ → Task → Result Command NotDone
ready_for image terms t task =
    cond (eqb task.status runs)
    (cond (fits image terms t task) (Ok (command_at (blocks_of image) task.block)) (Err (Differs (point_of t task))))
    (Err NotRunning)

-- a block with the command c passes 5 to 8 and 23 by itself, and 9 to 12 at a point
abbrev pub passes : Header → List ℕ → Command → Point → Bool
passes header block c p = eqb (block_fault_number (block_fault header block)) 0 && eqb (fault_number (fault_of (by_header header) c p)) 0

-- what a command reads besides the values and the input levels
abbrev pub context_with : Drive → ℕ → ℕ → ℕ → ℕ → ℕ → Context
context_with drive start ramp_ended in_window time turns = record {
  drive = drive;
  start = level start;
  ramp_ended = level ramp_ended;
  in_window = level in_window;
  time = time;
  turns = turns;
}

-- The engine's step on values (document 01, "Running", and 15, 18, 17, 19, 20, 22): the tests in their order, then the command, with a call stack of
-- bounded length for each task. 16 is the buffer's.
use Rattle.std.specs.Prelude.{ℕ, ◌+◌, ◌-◌, Bool, true, false, ◌&&◌, ◌||◌, not, cond, List, eqb, ltb, length, get_or, set, Option, Some, None, Ok, Err}
use Rattle.limits.specs.Limits.{bias, task_count, inputs_length}
use Rattle.image_result.specs.ImageResult.{done}
use Rattle.image_header.specs.Rows.{same_header, same_landings}
use Rattle.image_header.specs.Scan.{header_of, landings_of, blocks_of}
use Rattle.image_header.specs.Scan.{HeaderJudged}
use Rattle.walk_flow.specs.Terms.{Terms, under}
use Rattle.walk_fault.specs.Fault.{fault_number}
use Rattle.walk_point.specs.PointFault.{point}
use Rattle.walk_point.specs.declared.Point.{Point}
use Rattle.walk.specs.Blocks.{command_at, fault_at, block_number}
use Rattle.state.specs.State.{runs, ended, halted, empty_stack, task_with, task_at, with_notes}
use Rattle.state.specs.declared.Task.{Task}
use Rattle.state.specs.declared.Notes.{Notes}
use Rattle.state.specs.declared.State.{State}
use Rattle.machine.specs.Inputs.{Inputs, level}
use Rattle.machine.specs.declared.Context.{Context}
use Rattle.machine.specs.Effect.{effect_of, is_set, bit}
use Rattle.machine.specs.declared.Request.{Request}
use Rattle.machine.specs.declared.Request.TheVariants.{MoveTo, MoveBy, Forward, Backward, Stop}
use Rattle.machine.specs.declared.Outcome.{Outcome}
use Rattle.machine.specs.declared.Outcome.TheVariants.{GoOn, Stay, Jump, Call, Return, Start, Restart, End, Halt}
use Rattle.machine.specs.declared.Effect.{Effect}
use Rattle.machine.specs.declared.StepOut.{StepOut}
use Rattle.machine.specs.Answers.{Answer}
use Rattle.machine.specs.declared.NotDone.TheVariants.{NoTask, Inputs as BadInputs, NotRunning, Differs, Halted}

-- ---- tasks

-- to a block, with no wait
abbrev pub go_to : ℕ → Task → Task
go_to b task = task_with runs b task.start task.depth task.stack 0 0

-- at the same block, with a wait of T and k, or with none
abbrev pub stay_with : ℕ → ℕ → Task → Task
stay_with time turns task = task_with runs task.block task.start task.depth task.stack time turns

-- the block behind the call goes on the stack
abbrev pub call_to : ℕ → Task → Task
call_to a task = task_with runs a task.start (task.depth + 1) (set task.stack task.depth (task.block + 1)) 0 0

-- the last block comes off the stack, and its entry is cleared
abbrev pub return_from : Task → Task
return_from task = task_with runs (get_or task.stack (task.depth - 1) 0) task.start (task.depth - 1) (set task.stack (task.depth - 1) 0) 0 0

-- anew at a block; the start of BIAS stays the program start
abbrev pub start_anew : ℕ → ℕ → ℕ → Task
start_anew first u a = task_with runs a (cond (eqb u bias) first a) 0 empty_stack 0 0

abbrev pub restarted : Task → Task
restarted task = task_with runs task.start task.start 0 empty_stack 0 0

-- ended or halted: block, start and stack stay, and no wait is pending
abbrev pub stopped : ℕ → Task → Task
stopped status task = task_with status task.block task.start task.depth task.stack 0 0

-- ---- the three tasks after a command's outcome, for the task t with this record; `first` is the program start

abbrev pub tasks_after : ℕ → ℕ → Task → Outcome → List Task → List Task
tasks_after first t task GoOn l = set l t (go_to (task.block + 1) task)
tasks_after first t task (Stay time turns) l = set l t (stay_with time turns task)
tasks_after first t task (Jump a) l = set l t (go_to a task)
tasks_after first t task (Call a) l = set l t (call_to a task)
tasks_after first t task Return l = set l t (return_from task)
tasks_after first t task (Start u a) l = set (set l t (go_to (task.block + 1) task)) u (start_anew first u a)
tasks_after first t task Restart l = set l t (restarted task)
tasks_after first t task End l = set l t (stopped ended task)
tasks_after first t task (Halt q) l = set l t (stopped halted task)

-- ---- a step

-- a refused step changes nothing and asks for no motion
abbrev pub refuse : State → Answer → StepOut
refuse s a = record { state = s; request = None; answer = a }

-- where a task is
abbrev pub point_of : ℕ → Task → Point
point_of t task = point t task.block task.depth

-- the answer to a command that was done
abbrev pub answer_to : Outcome → Point → Answer
answer_to GoOn p = Ok tt
answer_to (Stay time turns) p = Ok tt
answer_to (Jump a) p = Ok tt
answer_to (Call a) p = Ok tt
answer_to Return p = Ok tt
answer_to (Start u a) p = Ok tt
answer_to Restart p = Ok tt
answer_to End p = Ok tt
answer_to (Halt q) p = Err (Halted q p)

-- ---- the notes of a BIAS step

-- a request that moves the axis; a stop does not
abbrev pub is_move : Option Request → Bool
is_move None = false
is_move (Some (MoveTo axis)) = true
is_move (Some (MoveBy axis)) = true
is_move (Some (Forward axis)) = true
is_move (Some (Backward axis)) = true
is_move (Some (Stop mode deceleration)) = false

-- 19, 20 or 22
abbrev pub is_halt : Outcome → Bool
is_halt GoOn = false
is_halt (Stay time turns) = false
is_halt (Jump a) = false
is_halt (Call a) = false
is_halt Return = false
is_halt (Start u a) = false
is_halt Restart = false
is_halt End = false
is_halt (Halt q) = true

-- the note of a move after a command: whether it carried one out; a halt leaves the note as it was before (change request 4)
abbrev pub moved_after : Outcome → Option Request → ℕ → ℕ
moved_after outcome request before = cond (is_halt outcome) before (bit (is_move request))

-- the notes after a step: a BIAS step takes the start input's level and whether it carried out a move
abbrev pub notes_after : ℕ → ℕ → Outcome → Option Request → Notes → Notes
notes_after t start outcome request before =
    cond (eqb t bias) (record { level = level start; moved = moved_after outcome request before.moved }) before

-- ---- the command

-- what the command may read besides the values and the input levels
abbrev pub context_of : State → Task → Inputs → Context
context_of s task x = record {
  drive = s.header.drive;
  start = level x.start;
  ramp_ended = level x.ramp_ended;
  in_window = level x.in_window;
  time = task.time;
  turns = task.turns;
}

unfoldable pub performed : State → Inputs → Task → Effect → StepOut
performed s x task e = record {
  state = record {
    values = with_notes (notes_after x.task x.start e.outcome e.request e.values.notes) e.values;
    header = s.header;
    landings = s.landings;
    tasks = tasks_after s.header.start x.task task e.outcome s.tasks;
  };
  request = e.request;
  answer = answer_to e.outcome (point_of x.task task);
}

-- ---- 17: the lent image is not the loaded one, or the block at the pointer breaks 5 to 12 or 23 at the present depth, or a wait is pending at no wait

-- what the program of a state is judged under
abbrev pub terms_held : State → Terms
terms_held s = under s.header s.landings

-- what was read of the lent image, header and landing list, is what was loaded
abbrev pub is_loaded : HeaderJudged → List ℕ → Terms → Bool
is_loaded r landings terms =
    done r.result && (same_header r.header terms.header && same_landings terms.header.landings landings terms.landings)

abbrev pub block_fits : Terms → List ℕ → ℕ → Task → Bool
block_fits terms bs t task = eqb (block_number terms bs task.block) 0 && eqb (fault_number (fault_at terms bs (point_of t task))) 0

abbrev pub is_wait : ℕ → Bool
is_wait code = eqb code 0x59 || eqb code 0x5A

abbrev pub wait_fits : List ℕ → Task → Bool
wait_fits bs task = not (is_set task.time) || is_wait (command_at bs task.block).code

-- of an image whose header and landing list were read as r and `landings`, and whose blocks are bs
abbrev pub fits_as : HeaderJudged → List ℕ → List ℕ → Terms → ℕ → Task → Bool
fits_as r landings bs terms t task = is_loaded r landings terms && (block_fits terms bs t task && wait_fits bs task)

unfoldable pub fits : List ℕ → Terms → ℕ → Task → Bool
fits image terms t task = fits_as (header_of image) (landings_of image) (blocks_of image) terms t task

-- the command at the task's block, with the landing blocks that the state holds
abbrev pub carried_out : List ℕ → State → Inputs → Task → StepOut
carried_out bs s x task = performed s x task (effect_of x.levels (terms_held s).landings (context_of s task x) (command_at bs task.block) s.values)

-- 18, then 17, then the command
unfoldable pub task_step : List ℕ → State → Inputs → Task → StepOut
task_step image s x task =
    cond (eqb task.status runs)
    (cond (fits image (terms_held s) x.task task)
    (carried_out (blocks_of image) s x task)
    (refuse s (Err (Differs (point_of x.task task)))))
    (refuse s (Err NotRunning))

-- 15 first: the task number, then the length of the input levels
unfoldable pub step : List ℕ → State → Inputs → StepOut
step image s x =
    cond (ltb x.task task_count)
    (cond (eqb (length x.levels) inputs_length) (task_step image s x (task_at s x.task)) (refuse s (Err (BadInputs (length x.levels)))))
    (refuse s (Err (NoTask x.task)))

-- Every step, of whatever bytes, in a run or not (demand 1): which way it goes, and of each way the condition, the whole answer and the whole buffer. Proved
-- as `every_step` in proofs/EveryStep.antt.
use Rattle.std.specs.Prelude.{ℕ, ◌<◌, ◌≤◌, ◌≡◌, true, false, ◌↔◌, List, length, set, None, Ok, Err}
use Rattle.limits.specs.Limits.{task_count, inputs_length}
use Rattle.num_le.specs.LittleEndian.{Bytes}
use Rattle.state.specs.State.{runs, halted, task_with, task_at}
use Rattle.state.specs.declared.Task.{Task}
use Rattle.state.specs.declared.State.{State}
use Rattle.state_layout.specs.Layout.{decoded, encoded}
use Rattle.state_layout.specs.IsState.{is_state}
use Rattle.machine.specs.Inputs.{Inputs}
use Rattle.image_header.specs.Scan.{blocks_of}
use Rattle.machine.specs.Engine.{point_of, fits, carried_out, terms_held}
use Rattle.machine.specs.StepRule.{command_of, level_noted, Reason}
use Rattle.machine.specs.declared.Cause.{Cause}
use Rattle.machine.specs.declared.NotDone.TheVariants.{NoTask, Inputs as BadInputs, NotRunning, Differs, Halted}
use Rattle.bias_results.specs.Results.{no_state_answer, answer_for}
use Rattle.bias_results.specs.declared.BiasAnswer.{BiasAnswer}
use Rattle.bias.specs.Step.{stepped}

-- ---- what 19, 20 and 22 leave

-- block, start, call stack and wait stay
abbrev pub with_status : ℕ → Task → Task
with_status status task = task_with status task.block task.start task.depth task.stack task.time task.turns

-- the task is halted, a BIAS step has noted the start level, and nothing else has changed, the note of a move included
abbrev pub halted_state : State → Inputs → State
halted_state s x = record {
  values = level_noted x.task x.start s.values;
  header = s.header;
  landings = s.landings;
  tasks = set s.tasks x.task (with_status halted (task_at s x.task));
}

-- ---- the tests, in their order

-- 15 lets the step pass
pub record Asked (x : Inputs) : Type 0 where
  pub task : x.task < task_count
  pub levels : length x.levels ≡ inputs_length

-- and so does 16
pub record Held (b : List ℕ) (x : Inputs) : Type 0 where
  pub asked : Asked x
  pub state : is_state b ≡ true

-- 18 too
pub record Running (b : List ℕ) (x : Inputs) : Type 0 where
  pub held : Held b x
  pub running : (task_at (decoded b) x.task).status ≡ runs

-- and 17: the command at the task's block is executed
pub record Ready (image b : List ℕ) (x : Inputs) : Type 0 where
  pub runs : Running b x
  pub fits : fits image (terms_held (decoded b)) x.task (task_at (decoded b) x.task) ≡ true

-- the command has this reason to halt its task
abbrev pub ReasonHere : List ℕ → List ℕ → Inputs → Cause → Type 0
ReasonHere image b x = Reason (terms_held (decoded b)).landings (command_of image (decoded b) x) (decoded b).values (task_at (decoded b) x.task).time

-- ---- the ways of a step, each with its answer and the buffer after it

pub data Way (image b : List ℕ) (x : Inputs) : BiasAnswer → List ℕ → Type 0 where
  -- 15: there is no such task
  no_task : task_count ≤ x.task → Way image b x (answer_for None (Err (NoTask x.task))) b
  -- 15: the input levels have another length
  bad_inputs : x.task < task_count → (length x.levels ≡ inputs_length → ⊥) → Way image b x (answer_for None (Err (BadInputs (length x.levels)))) b
  -- 16
  no_state : Asked x → is_state b ≡ false → Way image b x no_state_answer b
  -- 18
  not_running : Held b x → ((task_at (decoded b) x.task).status ≡ runs → ⊥) → Way image b x (answer_for None (Err NotRunning)) b
  -- 17, at the task's point
  differs : Running b x → fits image (terms_held (decoded b)) x.task (task_at (decoded b) x.task) ≡ false
      → Way image b x (answer_for None (Err (Differs (point_of x.task (task_at (decoded b) x.task))))) b
  -- carried out: the motion and the state are those of the command
  done : Ready image b x → ((q : Cause) → ReasonHere image b x q → ⊥)
      → Way image b x (answer_for (carried_out (blocks_of image) (decoded b) x (task_at (decoded b) x.task)).request (Ok tt))
      (encoded (carried_out (blocks_of image) (decoded b) x (task_at (decoded b) x.task)).state)
  -- 19, 20 or 22, at the task's point, with no motion
  halts : Ready image b x → (q : Cause) → ReasonHere image b x q
      → Way image b x (answer_for None (Err (Halted q (point_of x.task (task_at (decoded b) x.task))))) (encoded (halted_state (decoded b) x))

pub record StepOf (image b : List ℕ) (x : Inputs) : Type 0 where
  -- a step goes one of these ways, and what it answers and leaves is nothing else
  pub way : (a : BiasAnswer) (after : List ℕ) → Way image b x a after ↔ ((a ≡ (stepped image b x).answer) × (after ≡ (stepped image b x).buffer))
  -- and a buffer that is a state is one afterwards
  pub held : is_state b ≡ true → is_state (stepped image b x).buffer ≡ true

-- every image and every buffer of bytes, whatever the step is given
abbrev pub EveryStep : Type 0
EveryStep = (image b : List ℕ) → Bytes image → Bytes b → (x : Inputs) → StepOf image b x

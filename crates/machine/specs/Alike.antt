-- What document 01 compares after a list of steps ("Runs and the plain machine"): one named field for each thing.
use Rattle.std.specs.Prelude.{ℕ, zero, suc, ◌<◌, ◌≡◌, List, [], ◌∷◌, eqb, get_or}
use Rattle.limits.specs.Limits.{task_count}
use Rattle.state.specs.State.{runs, task_at, first_axis, axis_of}
use Rattle.state.specs.declared.Task.{Task}
use Rattle.state.specs.declared.Values.{Values}
use Rattle.state.specs.declared.State.{State}
use Rattle.machine.specs.Reference.{Thread, Machine, idle}

-- the first `depth` entries of a call stack as a list, the latest first
abbrev pub returns_of : List ℕ → ℕ → List ℕ
returns_of stack zero = []
returns_of stack (suc d) = get_or stack d 0 ∷ returns_of stack d

-- a task of the engine and one of the reference machine: both run or neither; where they run, block, return blocks, start block and wait are the same
pub record SameTask (task : Task) (p : Thread) : Type 0 where
  pub running : eqb task.status runs ≡ p.runs
  pub block : task.status ≡ runs → task.block ≡ p.block
  pub returns : task.status ≡ runs → returns_of task.stack task.depth ≡ p.returns
  pub start : task.status ≡ runs → task.start ≡ p.start
  pub time : task.status ≡ runs → task.time ≡ p.time
  pub turns : task.status ≡ runs → task.turns ≡ p.turns

pub record SameValues (v w : Values) : Type 0 where
  pub variables : v.cells.variables ≡ w.cells.variables
  pub flags : v.cells.flags ≡ w.cells.flags
  pub outputs : v.cells.outputs ≡ w.cells.outputs
  pub position : (axis_of first_axis v).position ≡ (axis_of first_axis w).position
  pub speed : (axis_of first_axis v).speed ≡ (axis_of first_axis w).speed
  pub acceleration : (axis_of first_axis v).acceleration ≡ (axis_of first_axis w).acceleration
  pub deceleration : (axis_of first_axis v).deceleration ≡ (axis_of first_axis w).deceleration
  pub mark : v.motion.mark ≡ w.motion.mark
  pub level : v.notes.level ≡ w.notes.level
  pub moved : v.notes.moved ≡ w.notes.moved

pub record Alike (s : State) (m : Machine) : Type 0 where
  pub tasks : (t : ℕ) → t < task_count → SameTask (task_at s t) (get_or m.threads t idle)
  pub values : SameValues s.values m.values

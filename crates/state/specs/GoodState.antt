-- A good state: what 16 lets pass, as far as the state by value shows it (docs/STATE.md). Parity of a wait is not judged, and that a task
-- never started is all 0 is a fact of runs, not of good states.
use Rattle.std.specs.Prelude.{ℕ, ◌<◌, ◌≤◌, ◌≡◌, false, length, get_or, pos}
use Rattle.std.specs.Int.{w32}
use Rattle.std.proofs.Common.{SFits}
use Rattle.limits.specs.Limits.{bias, task_count, most_depth, cells, most_level, most_speed, most_ramp, longest_wait}
use Rattle.image_header.specs.GoodHeader.{GoodHeader, GoodLandings}
use Rattle.image_header.specs.declared.Header.{Header}
use Rattle.state.specs.State.{halted, no_task}
use Rattle.state.specs.Wait.{due}
use Rattle.state.specs.declared.Task.{Task}
use Rattle.state.specs.declared.Axis.{Axis}
use Rattle.state.specs.declared.Cells.{Cells}
use Rattle.state.specs.declared.Motion.{Motion}
use Rattle.state.specs.declared.Notes.{Notes}
use Rattle.state.specs.declared.Values.{Values}
use Rattle.state.specs.declared.State.{State}

-- a wait: none, or one of 1 ms up to the longest that is not over yet
pub data GoodWait (model : ℕ) : ℕ → ℕ → Type 0 where
  none : GoodWait model 0 0
  pending : {time turns : ℕ} → 0 < time → time ≤ longest_wait → due model time turns ≡ false → GoodWait model time turns

-- a task: block and start in the image; the call stack's entries under the depth too, and those above it 0
pub record GoodTask (h : Header) (task : Task) : Type 0 where
  pub status : task.status ≤ halted
  pub block : task.block < h.count
  pub start : task.start < h.count
  pub depth : task.depth ≤ most_depth
  pub long : length task.stack ≡ most_depth
  pub under : (i : ℕ) → i < task.depth → get_or task.stack i 0 < h.count
  pub above : (i : ℕ) → task.depth ≤ i → get_or task.stack i 0 ≡ 0
  pub wait : GoodWait h.drive.model task.time task.turns

-- a parameter from 1 up to its most
pub record InRange (most n : ℕ) : Type 0 where
  pub positive : 0 < n
  pub bounded : n ≤ most

pub record GoodAxis (a : Axis) : Type 0 where
  pub position : SFits w32 a.position
  pub speed : InRange most_speed a.speed
  pub acceleration : InRange most_ramp a.acceleration
  pub deceleration : InRange most_ramp a.deceleration

-- variables of 32 bits; flags and outputs 0 or 1
pub record GoodCells (c : Cells) : Type 0 where
  pub variables : length c.variables ≡ cells
  pub signed : (i : ℕ) → SFits w32 (get_or c.variables i (pos 0))
  pub flags : length c.flags ≡ cells
  pub flag : (i : ℕ) → get_or c.flags i 0 ≤ most_level
  pub outputs : length c.outputs ≡ cells
  pub output : (i : ℕ) → get_or c.outputs i 0 ≤ most_level

-- the start mark 0 or 1
pub record GoodMotion (m : Motion) : Type 0 where
  pub axis : GoodAxis m.axis
  pub mark : m.mark ≤ most_level

-- the preceding start level and the note of a move 0 or 1
pub record GoodNotes (n : Notes) : Type 0 where
  pub level : n.level ≤ most_level
  pub moved : n.moved ≤ most_level

pub record GoodValues (v : Values) : Type 0 where
  pub cells : GoodCells v.cells
  pub motion : GoodMotion v.motion
  pub notes : GoodNotes v.notes

-- BIAS's start is the program start: the buffer does not hold it apart
pub record GoodState (s : State) : Type 0 where
  pub header : GoodHeader s.header
  pub landings : GoodLandings s.header s.landings
  pub values : GoodValues s.values
  pub three : length s.tasks ≡ task_count
  pub task : (t : ℕ) → t < task_count → GoodTask s.header (get_or s.tasks t no_task)
  pub first : (get_or s.tasks bias no_task).start ≡ s.header.start

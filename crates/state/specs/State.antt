-- The state by value: document 01, "Running", and what load leaves. antt has no record update, so each setter is written once.
use Rattle.std.specs.Prelude.{ℕ, List, [], ◌∷◌, replicate, get_or, ℤ, pos, Some}
use Rattle.limits.specs.Limits.{most_depth, cells}
use Rattle.image_header.specs.declared.Header.{Header}
use Rattle.state.specs.Change.{values_of, changed}
use Rattle.state.specs.declared.Change.TheVariants.{Variable, Flag, Output, Parameters, Mark}
use Rattle.state.specs.declared.Task.{Task}
use Rattle.state.specs.declared.Axis.{Axis}
use Rattle.state.specs.declared.Cells.{Cells}
use Rattle.state.specs.declared.Motion.{Motion}
use Rattle.state.specs.declared.Notes.{Notes}
use Rattle.state.specs.declared.Values.{Values}
use Rattle.state.specs.declared.State.{State}

-- statuses of a task
abbrev pub never : ℕ
never = 0

abbrev pub runs : ℕ
runs = 1

abbrev pub ended : ℕ
ended = 2

abbrev pub halted : ℕ
halted = 3

abbrev pub empty_stack : List ℕ
empty_stack = replicate most_depth 0

abbrev pub task_with : ℕ → ℕ → ℕ → ℕ → List ℕ → ℕ → ℕ → Task
task_with status block start depth stack time turns =
    record { status = status; block = block; start = start; depth = depth; stack = stack; time = time; turns = turns }

abbrev pub never_started : Task
never_started = task_with never 0 0 0 empty_stack 0 0

-- past the array's end there is this: all 0, and no stack
abbrev pub no_task : Task
no_task = task_with never 0 0 0 [] 0 0

-- begun at a block, which is its start block too, with an empty call stack and no wait
abbrev pub running : ℕ → Task
running a = task_with runs a a 0 empty_stack 0 0

-- ---- as load leaves it

-- position 0, the others the least of their ranges
abbrev pub start_axis : Axis
start_axis = record { position = pos 0; speed = 1; acceleration = 1; deceleration = 1 }

abbrev pub start_cells : Cells
start_cells = record { variables = replicate cells (pos 0); flags = replicate cells 0; outputs = replicate cells 0 }

-- no start mark
abbrev pub start_motion : Motion
start_motion = record { axis = start_axis; mark = 0 }

-- the preceding level counts as high; there was no move (change request 4)
abbrev pub start_notes : Notes
start_notes = record { level = 1; moved = 0 }

unfoldable pub fresh_values : Values
fresh_values = record { cells = start_cells; motion = start_motion; notes = start_notes }

-- BIAS at the program start, the PLC and mathematics never started
unfoldable pub fresh : Header → List ℕ → State
fresh h landings = record { values = fresh_values; header = h; landings = landings; tasks = running h.start ∷ never_started ∷ never_started ∷ [] }

-- ---- setters of the values: each but that of the notes makes one change

abbrev pub with_variable : ℕ → ℤ → Values → Values
with_variable i z v = changed (Some (Variable i z)) v

abbrev pub with_flag : ℕ → ℕ → Values → Values
with_flag i x v = changed (Some (Flag i x)) v

abbrev pub with_output : ℕ → ℕ → Values → Values
with_output i x v = changed (Some (Output i x)) v

abbrev pub with_mark : ℕ → Values → Values
with_mark m v = changed (Some (Mark m)) v

abbrev pub with_notes : Notes → Values → Values
with_notes n v = values_of v.cells v.motion n

-- ---- the axis of a number: there is one, and any number reads it and sets it

abbrev pub first_axis : ℕ
first_axis = 0

abbrev pub axis_of : ℕ → Values → Axis
axis_of n v = v.motion.axis

abbrev pub with_axis : ℕ → Axis → Values → Values
with_axis n a v = changed (Some (Parameters n a)) v

-- ---- setters of the axis

abbrev pub with_position : ℤ → Axis → Axis
with_position z a = record { position = z; speed = a.speed; acceleration = a.acceleration; deceleration = a.deceleration }

abbrev pub with_speed : ℕ → Axis → Axis
with_speed n a = record { position = a.position; speed = n; acceleration = a.acceleration; deceleration = a.deceleration }

abbrev pub with_acceleration : ℕ → Axis → Axis
with_acceleration n a = record { position = a.position; speed = a.speed; acceleration = n; deceleration = a.deceleration }

abbrev pub with_deceleration : ℕ → Axis → Axis
with_deceleration n a = record { position = a.position; speed = a.speed; acceleration = a.acceleration; deceleration = n }

-- ---- the task of a number

abbrev pub task_at : State → ℕ → Task
task_at s t = get_or s.tasks t no_task

-- The state buffer (docs/STATE.md): its sections, one line for each, in the same order in `lengths` and in `sections`; a state's bytes; and the state that a
-- buffer holds. Every buffer is read as some state; 16 (specs/IsState.antt) says which are one.
use Rattle.std.specs.Prelude.{ℕ, ◌+◌, ◌-◌, ◌*◌, List, [], ◌∷◌, get_or, ℤ}
use Rattle.limits.specs.Limits.{bias, plc, mathematics, state_length}
use Rattle.state_sections.specs.Sections.{total, offset, filled}
use Rattle.image_header.specs.declared.Header.{Header}
use Rattle.state.specs.State.{task_at}
use Rattle.state.specs.declared.Cells.{Cells}
use Rattle.state.specs.declared.Motion.{Motion}
use Rattle.state.specs.declared.Notes.{Notes}
use Rattle.state.specs.declared.Task.{Task}
use Rattle.state.specs.declared.Values.{Values}
use Rattle.state.specs.declared.State.{State}
use Rattle.state_layout.specs.Codecs.{variables_length, variable_bytes, variables_in, levels_length, levels_in, layout_widths, layout_bytes}
use Rattle.state_layout.specs.Codecs.{header_widths, header_bytes, header_in, landings_length, landing_bytes, landings_in, motion_widths, motion_bytes, motion_in, notes_widths, notes_bytes, notes_in}
use Rattle.state_layout.specs.Codecs.{start_widths, start_bytes, starts_in, task_length, task_bytes, task_in}

abbrev pub lengths : List ℕ
lengths =
    variables_length
    ∷ levels_length
    ∷ levels_length
    ∷ total layout_widths
    ∷ total header_widths
    ∷ landings_length
    ∷ total motion_widths
    ∷ total notes_widths
    ∷ total start_widths
    ∷ task_length
    ∷ task_length
    ∷ task_length
    ∷ []

abbrev pub sections : State → List (List ℕ)
sections s =
    variable_bytes s.values.cells.variables
    ∷ s.values.cells.flags
    ∷ s.values.cells.outputs
    ∷ layout_bytes
    ∷ header_bytes s.header
    ∷ landing_bytes s.landings
    ∷ motion_bytes s.values.motion
    ∷ notes_bytes s.values.notes
    ∷ start_bytes s
    ∷ task_bytes (task_at s bias)
    ∷ task_bytes (task_at s plc)
    ∷ task_bytes (task_at s mathematics)
    ∷ []

-- ---- their places

abbrev pub variables_at : ℕ
variables_at = offset lengths 0

abbrev pub flags_at : ℕ
flags_at = offset lengths 1

abbrev pub outputs_at : ℕ
outputs_at = offset lengths 2

abbrev pub layout_at : ℕ
layout_at = offset lengths 3

abbrev pub header_at : ℕ
header_at = offset lengths 4

abbrev pub landings_at : ℕ
landings_at = offset lengths 5

abbrev pub motion_at : ℕ
motion_at = offset lengths 6

abbrev pub notes_at : ℕ
notes_at = offset lengths 7

abbrev pub starts_at : ℕ
starts_at = offset lengths 8

abbrev pub tasks_at : ℕ
tasks_at = offset lengths 9

abbrev pub task_place : ℕ → ℕ
task_place t = tasks_at + task_length * t

-- the bytes behind them are unused
abbrev pub unused_at : ℕ
unused_at = total lengths

abbrev pub unused_length : ℕ
unused_length = state_length - unused_at

-- ---- the buffer of a state

-- a state by its parts
abbrev pub state_of : List ℤ → List ℕ → List ℕ → Header → List ℕ → Motion → Notes → List Task → State
state_of variables flags outputs header landings motion notes tasks = record {
  values = record { cells = record { variables = variables; flags = flags; outputs = outputs }; motion = motion; notes = notes };
  header = header;
  landings = landings;
  tasks = tasks;
}

unfoldable pub encoded : State → List ℕ
encoded s = filled state_length lengths (sections s)

-- ---- the state of a buffer

abbrev pub cells_in : List ℕ → Cells
cells_in b = record { variables = variables_in b variables_at; flags = levels_in b flags_at; outputs = levels_in b outputs_at }

abbrev pub values_in : List ℕ → Values
values_in b = record { cells = cells_in b; motion = motion_in b motion_at; notes = notes_in b notes_at }

-- the tasks: BIAS starts at the program start
abbrev pub bias_in : List ℕ → Task
bias_in b = task_in b (task_place bias) (header_in b header_at).start

abbrev pub plc_in : List ℕ → Task
plc_in b = task_in b (task_place plc) (get_or (starts_in b starts_at) 0 0)

abbrev pub mathematics_in : List ℕ → Task
mathematics_in b = task_in b (task_place mathematics) (get_or (starts_in b starts_at) 1 0)

abbrev pub tasks_in : List ℕ → List Task
tasks_in b = bias_in b ∷ plc_in b ∷ mathematics_in b ∷ []

unfoldable pub decoded : List ℕ → State
decoded b = record { values = values_in b; header = header_in b header_at; landings = landings_in b landings_at; tasks = tasks_in b }

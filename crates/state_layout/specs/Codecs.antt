-- One codec for each kind of section of the state buffer (docs/STATE.md): its length, its bytes, and what is read where they stand.
use Rattle.std.specs.Prelude.{ℕ, ◌+◌, ◌*◌, List, [], ◌∷◌, get_or, ℤ, pos}
use Rattle.std.specs.Int.{w32}
use Rattle.std.proofs.Common.{to_z}
use Rattle.limits.specs.Limits.{plc, mathematics, most_depth, most_landings, cells}
use Rattle.num_arith.specs.Wrap.{word}
use Rattle.num_le.specs.LittleEndian.{le_bytes}
use Rattle.image_header.specs.Numbers.{numbers_of, header_from}
use Rattle.image_header.specs.declared.Header.{Header}
use Rattle.state_bytes.specs.Bytes.{le_number_at, signed_at, signed_bytes, table, concatenated}
use Rattle.state_sections.specs.Sections.{joined, total, offset}
use Rattle.state_sections.specs.Records.{record_bytes, record_in}
use Rattle.state.specs.State.{task_at}
use Rattle.state.specs.declared.Task.{Task}
use Rattle.state.specs.declared.Axis.{Axis}
use Rattle.state.specs.declared.Motion.{Motion}
use Rattle.state.specs.declared.Notes.{Notes}
use Rattle.state.specs.declared.State.{State}

-- ---- the variables, four bytes each

abbrev pub variables_length : ℕ
variables_length = 4 * cells

unfoldable pub variable_bytes : List ℤ → List ℕ
variable_bytes l = concatenated cells (λ (k : ℕ). signed_bytes (get_or l k (pos 0)))

unfoldable pub variables_in : List ℕ → ℕ → List ℤ
variables_in s at = table cells (λ (k : ℕ). signed_at s (at + 4 * k))

-- ---- the flags, or the outputs, a byte each: they are their bytes

abbrev pub levels_length : ℕ
levels_length = cells

unfoldable pub levels_in : List ℕ → ℕ → List ℕ
levels_in s at = table cells (λ (k : ℕ). get_or s (at + k) 0)

-- ---- the layout number: each release that moves a byte, or gives one another meaning, raises it, and 16 refuses another, so that a state saved by a
-- release with another layout is none. The two layouts before the third had no number: they had the header here, whose first byte is the format, 1.

abbrev pub layout_number : ℕ
layout_number = 5

abbrev pub layout_widths : List ℕ
layout_widths = 1 ∷ []

abbrev pub layout_bytes : List ℕ
layout_bytes = record_bytes layout_widths (layout_number ∷ [])

-- ---- the header: format, type, slot B, slot C, start, count, landing count

abbrev pub header_widths : List ℕ
header_widths = 1 ∷ 1 ∷ 1 ∷ 1 ∷ 2 ∷ 2 ∷ 1 ∷ []

abbrev pub header_bytes : Header → List ℕ
header_bytes h = record_bytes header_widths (numbers_of h)

abbrev pub header_in : List ℕ → ℕ → Header
header_in s at = header_from (record_in header_widths s at)

-- ---- n blocks, two bytes each: the landing list, or a call stack

unfoldable pub word_bytes : ℕ → List ℕ → List ℕ
word_bytes n l = concatenated n (λ (i : ℕ). le_bytes 2 (get_or l i 0))

unfoldable pub words_in : ℕ → List ℕ → ℕ → List ℕ
words_in n s at = table n (λ (i : ℕ). le_number_at 2 s (at + 2 * i))

-- the landing list has room for the most landing blocks
abbrev pub landings_length : ℕ
landings_length = 2 * most_landings

abbrev pub landing_bytes : List ℕ → List ℕ
landing_bytes l = word_bytes most_landings l

abbrev pub landings_in : List ℕ → ℕ → List ℕ
landings_in s at = words_in most_landings s at

-- ---- motion: position, speed, acceleration, deceleration, start mark

abbrev pub motion_widths : List ℕ
motion_widths = 4 ∷ 2 ∷ 2 ∷ 2 ∷ 1 ∷ []

abbrev pub motion_record : Motion → List ℕ
motion_record m = word w32 m.axis.position ∷ m.axis.speed ∷ m.axis.acceleration ∷ m.axis.deceleration ∷ m.mark ∷ []

abbrev pub motion_bytes : Motion → List ℕ
motion_bytes m = record_bytes motion_widths (motion_record m)

abbrev pub axis_from : List ℕ → Axis
axis_from ns = record { position = to_z w32 (get_or ns 0 0); speed = get_or ns 1 0; acceleration = get_or ns 2 0; deceleration = get_or ns 3 0 }

abbrev pub motion_from : List ℕ → Motion
motion_from ns = record { axis = axis_from ns; mark = get_or ns 4 0 }

abbrev pub motion_in : List ℕ → ℕ → Motion
motion_in s at = motion_from (record_in motion_widths s at)

-- ---- the notes of BIAS: the preceding start level, and the note of a move

abbrev pub notes_widths : List ℕ
notes_widths = 1 ∷ 1 ∷ []

abbrev pub notes_bytes : Notes → List ℕ
notes_bytes n = record_bytes notes_widths (n.level ∷ n.moved ∷ [])

abbrev pub notes_from : List ℕ → Notes
notes_from ns = record { level = get_or ns 0 0; moved = get_or ns 1 0 }

abbrev pub notes_in : List ℕ → ℕ → Notes
notes_in s at = notes_from (record_in notes_widths s at)

-- ---- the start blocks of the PLC and of mathematics; BIAS's is the header's start

abbrev pub start_widths : List ℕ
start_widths = 2 ∷ 2 ∷ []

abbrev pub start_bytes : State → List ℕ
start_bytes s = record_bytes start_widths ((task_at s plc).start ∷ (task_at s mathematics).start ∷ [])

abbrev pub starts_in : List ℕ → ℕ → List ℕ
starts_in s at = record_in start_widths s at

-- ---- a task: status, depth, block; its call stack; the wait's T and k

abbrev pub stack_bytes : List ℕ → List ℕ
stack_bytes l = word_bytes most_depth l

abbrev pub stack_in : List ℕ → ℕ → List ℕ
stack_in s at = words_in most_depth s at

abbrev pub task_lengths : List ℕ
task_lengths = 1 ∷ 1 ∷ 2 ∷ (2 * most_depth) ∷ 4 ∷ 4 ∷ []

abbrev pub task_length : ℕ
task_length = total task_lengths

-- the places of the parts behind the record's first byte
abbrev pub task_part : ℕ → ℕ
task_part k = offset task_lengths k

abbrev pub task_parts : Task → List (List ℕ)
task_parts task =
    le_bytes 1 task.status
    ∷ le_bytes 1 task.depth
    ∷ le_bytes 2 task.block
    ∷ stack_bytes task.stack
    ∷ le_bytes 4 task.time
    ∷ le_bytes 4 task.turns
    ∷ []

abbrev pub task_bytes : Task → List ℕ
task_bytes task = joined (task_parts task)

-- with its start
abbrev pub task_in : List ℕ → ℕ → ℕ → Task
task_in s at start = record {
  status = le_number_at 1 s at;
  block = le_number_at 2 s (at + task_part 2);
  start = start;
  depth = le_number_at 1 s (at + task_part 1);
  stack = stack_in s (at + task_part 3);
  time = le_number_at 4 s (at + task_part 4);
  turns = le_number_at 4 s (at + task_part 5);
}

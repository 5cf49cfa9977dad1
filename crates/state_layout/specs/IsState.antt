-- 16: which buffers are a state (docs/STATE.md). The tests are made of the state that the buffer is read as; only its length, its layout number and its
-- unused bytes are the buffer's own.
use Rattle.std.specs.Prelude.{ℕ, ◌+◌, Bool, ◌&&◌, ◌||◌, not, List, eqb, ltb, leb, length, get_or}
use Rattle.logic.specs.Each.{each_below}
use Rattle.limits.specs.Limits.{bias, plc, mathematics, most_depth, cells, most_level, most_speed, most_ramp, longest_wait, state_length, up_to}
use Rattle.image_header.specs.Rows.{accepts, accepts_landings}
use Rattle.image_header.specs.declared.Header.{Header}
use Rattle.state.specs.State.{halted, task_at}
use Rattle.state.specs.Wait.{due}
use Rattle.state.specs.declared.Task.{Task}
use Rattle.state.specs.declared.Cells.{Cells}
use Rattle.state.specs.declared.Motion.{Motion}
use Rattle.state.specs.declared.Notes.{Notes}
use Rattle.state.specs.declared.Values.{Values}
use Rattle.state.specs.declared.State.{State}
use Rattle.state_bytes.specs.Bytes.{le_number_at}
use Rattle.state_layout.specs.Codecs.{layout_number}
use Rattle.state_layout.specs.Layout.{layout_at, unused_at, unused_length, decoded}

-- each of the first n of a list passes a test of its place and content
abbrev pub all_of : (ℕ → ℕ → Bool) → List ℕ → ℕ → Bool
all_of test l n = each_below (λ (k : ℕ). test k (get_or l k 0)) n

-- none, or from 1 ms up to the longest and not over
abbrev pub wait_is : ℕ → ℕ → ℕ → Bool
wait_is model time turns = (eqb time 0 && eqb turns 0) || (ltb 0 time && (leb time longest_wait && not (due model time turns)))

-- an entry of a call stack: under the depth a block, above it 0
abbrev pub entry_is : ℕ → ℕ → ℕ → ℕ → Bool
entry_is count depth i b = (ltb i depth && ltb b count) || (leb depth i && eqb b 0)

abbrev pub task_is : Header → Task → Bool
task_is h task =
    leb task.status halted && (ltb task.block h.count && (ltb task.start h.count && (leb task.depth most_depth
    && (all_of (entry_is h.count task.depth) task.stack most_depth && wait_is h.drive.model task.time task.turns))))

abbrev pub level_is : ℕ → ℕ → Bool
level_is i x = leb x most_level

abbrev pub cells_are : Cells → Bool
cells_are c = all_of level_is c.flags cells && all_of level_is c.outputs cells

abbrev pub motion_is : Motion → Bool
motion_is m =
    up_to most_speed m.axis.speed && (up_to most_ramp m.axis.acceleration && (up_to most_ramp m.axis.deceleration && leb m.mark most_level))

abbrev pub notes_are : Notes → Bool
notes_are n = leb n.level most_level && leb n.moved most_level

abbrev pub values_are : Values → Bool
values_are v = cells_are v.cells && (motion_is v.motion && notes_are v.notes)

unfoldable pub state_is : State → Bool
state_is s =
    accepts s.header && (accepts_landings s.header s.landings && (values_are s.values
    && (task_is s.header (task_at s bias) && (task_is s.header (task_at s plc) && task_is s.header (task_at s mathematics)))))

-- the unused bytes are 0
abbrev pub unused_bytes_zero : List ℕ → ℕ → Bool
unused_bytes_zero b n = each_below (λ (k : ℕ). eqb (get_or b (unused_at + k) 0) 0) n

-- its layout number is this release's
abbrev pub layout_is : List ℕ → Bool
layout_is b = eqb (le_number_at 1 b layout_at) layout_number

-- what is the buffer's own: its layout number and its unused bytes
unfoldable pub frame_is : List ℕ → Bool
frame_is b = layout_is b && unused_bytes_zero b unused_length

unfoldable pub is_state : List ℕ → Bool
is_state b = eqb (length b) state_length && (frame_is b && state_is (decoded b))

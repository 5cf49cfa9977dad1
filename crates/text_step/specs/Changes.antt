-- What a trace shows as changed: the numbers of two state buffers that are not the same.
use Rattle.std.specs.Prelude.{ℕ, ◌+◌, ◌*◌, Bool, ◌&&◌, cond, List, eqb, get_or}
use Rattle.logic.specs.Each.{each_below}
use Rattle.limits.specs.Limits.{bias, plc, mathematics, cells}
use Rattle.state_bytes.specs.Bytes.{le_number_at}
use Rattle.state_layout.specs.Codecs.{task_length}
use Rattle.state_layout.specs.Layout.{variables_at, flags_at, outputs_at, motion_at, notes_at, starts_at, task_place}

-- the n bytes from a place on are the same
abbrev pub same : List ℕ → List ℕ → ℕ → ℕ → Bool
same a b at n = each_below (λ (k : ℕ). eqb (get_or a (at + k) 0) (get_or b (at + k) 0)) n

-- so are k cells of n bytes each
abbrev pub same_cells : List ℕ → List ℕ → ℕ → ℕ → ℕ → Bool
same_cells a b at n count = each_below (λ (k : ℕ). same a b (at + n * k) n) count

-- position, speed, acceleration, deceleration, start mark, noted level, note of a move
unfoldable pub same_axis : List ℕ → List ℕ → Bool
same_axis a b =
    same a b motion_at 4 && (same a b (motion_at + 4) 2
    && (same a b (motion_at + 6) 2 && (same a b (motion_at + 8) 2 && (same a b (motion_at + 10) 1 && (same a b notes_at 1 && same a b (notes_at + 1) 1)))))

-- the start blocks of the PLC and of mathematics
unfoldable pub same_starts : List ℕ → List ℕ → Bool
same_starts a b = same a b starts_at 2 && same a b (starts_at + 2) 2

-- all but the layout number, the header, the landing list and the unused bytes, which no step changes
unfoldable pub unchanged : List ℕ → List ℕ → Bool
unchanged a b =
    same_cells a b variables_at 4 cells && (same_cells a b flags_at 1 cells && (same_cells a b outputs_at 1 cells && (same_axis a b && (same_starts a b
    && (same a b (task_place bias) task_length && (same a b (task_place plc) task_length && same a b (task_place mathematics) task_length))))))

-- a number of one, two or four bytes
unfoldable pub shown_at : List ℕ → ℕ → ℕ → ℕ
shown_at b at n = cond (eqb n 4) (le_number_at 4 b at) (cond (eqb n 2) (le_number_at 2 b at) (le_number_at 1 b at))

-- What the program does with a line: an image, a space, and records, each of steps or of a byte to put.
use Rattle.std.specs.Prelude.{ℕ, zero, suc, ◌+◌, ◌*◌, ◌/◌, min, cond, List, eqb, length, get_or, set, replicate, take, drop, ◌==◌}
use Rattle.std.specs.List.{position_or_len}
use Rattle.limits.specs.Limits.{cells, marks_length, state_length}
use Rattle.num_le.specs.LittleEndian.{le_bytes}
use Rattle.state_bytes.specs.Bytes.{le_number_at, puts}
use Rattle.machine.specs.Inputs.{Inputs, inputs_of}
use Rattle.text_verdict.specs.Input.{input_length}
use Rattle.bias.specs.Load.{Load, load}
use Rattle.bias.specs.Step.{stepped}
use Rattle.text_hex.specs.Hex.{hex_bytes}
use Rattle.manual.specs.declared.StepInputs.{StepInputs}

-- a record of steps: how often, the task, the start input, ramp ended, in window, and four inputs that are high (0: none)
abbrev pub record_length : ℕ
record_length = 9

abbrev pub high : List ℕ → ℕ → List ℕ → List ℕ
high steps at l = set l (get_or steps at 0) 1

abbrev pub levels_at : List ℕ → ℕ → List ℕ
levels_at steps at = high steps (at + 8) (high steps (at + 7) (high steps (at + 6) (high steps (at + 5) (replicate cells 0))))

abbrev pub inputs_at : List ℕ → ℕ → Inputs
inputs_at steps at = inputs_of (get_or steps (at + 1) 0) (levels_at steps at) (get_or steps (at + 2) 0) (get_or steps (at + 3) 0) (get_or steps (at + 4) 0)

-- the inputs that the program gives to a step
abbrev pub given : StepInputs → Inputs
given x = inputs_of x.task x.levels x.start x.ramp_ended x.in_window

-- the buffer after n steps of one kind
unfoldable pub repeated : List ℕ → Inputs → ℕ → List ℕ → List ℕ
repeated image x zero b = b
repeated image x (suc n) b = (stepped image (repeated image x n b) x).buffer

-- the buffer with a byte put into it, as no firmware may do: the record has the place, low byte first, and the byte
unfoldable pub with_byte : List ℕ → ℕ → List ℕ → List ℕ
with_byte steps at b = puts b (le_number_at 2 steps (at + 1)) (le_bytes 1 (get_or steps (at + 3) 0))

-- after the record at a place: steps, or for none of them a byte put
unfoldable pub recorded : List ℕ → List ℕ → ℕ → List ℕ → List ℕ
recorded image steps at b = cond (eqb (get_or steps at 0) 0) (with_byte steps at b) (repeated image (inputs_at steps at) (get_or steps at 0) b)

-- after k records
unfoldable pub after : List ℕ → List ℕ → ℕ → List ℕ → List ℕ
after image steps zero b = b
after image steps (suc k) b = recorded image steps (record_length * k) (after image steps k b)

-- after a load, and the records if it is accepted
unfoldable pub after_load : List ℕ → List ℕ → Load → List ℕ
after_load image steps l = cond (eqb l.verdict.number 0) (after image steps (length steps / record_length) l.buffer) l.buffer

unfoldable pub after_example : List ℕ → List ℕ → List ℕ → List ℕ
after_example image steps b = after_load image steps (load image marks_length b)

-- ---- a line

-- where its space stands, or its end
unfoldable pub space_of : List ℕ → ℕ
space_of line = position_or_len (λ (b : ℕ). b == 32) line

unfoldable pub behind : List ℕ → ℕ → List ℕ
behind line k = drop (k + 1) line

-- as many bytes as there is room for
unfoldable pub fitting : ℕ → List ℕ → List ℕ
fitting room digits = hex_bytes digits (min (length digits / 2) room)

-- the buffer at the end of an example
unfoldable pub example : List ℕ → List ℕ
example line = after_example (fitting input_length (take (space_of line) line)) (fitting 4096 (behind line (space_of line))) (replicate state_length 0)

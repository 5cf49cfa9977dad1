-- A list of steps in bytes, and the state buffer after a load and the steps.
use Rattle.std.specs.Prelude.{ℕ, zero, suc, ◌+◌, cond, List, [], ◌∷◌, eqb, leb, length, get_or, take, drop}
use Rattle.state_bytes.specs.Bytes.{le_number_at}
use Rattle.machine.specs.Inputs.{Inputs, inputs_of}
use Rattle.bias.specs.Load.{load}
use Rattle.proved_demands.specs.Run.{buffer_after}

-- a step: the task number in four bytes, the start input, ramp ended, in window, the length of the input levels in two bytes, and the input levels
abbrev pub head_length : ℕ
head_length = 9

-- the length of the input levels of the step at a place
abbrev pub length_at : List ℕ → ℕ → ℕ
length_at s at = le_number_at 2 s (at + 7)

-- where the step behind it begins
abbrev pub next_at : List ℕ → ℕ → ℕ
next_at s at = at + head_length + length_at s at

-- the step at a place
unfoldable pub step_at : List ℕ → ℕ → Inputs
step_at s at =
    inputs_of (le_number_at 4 s at) (take (length_at s at) (drop (at + head_length) s)) (get_or s (at + 4) 0) (get_or s (at + 5) 0) (get_or s (at + 6) 0)

-- the steps that stand whole one behind the other from a place on, at most k of them
unfoldable pub steps_from : List ℕ → ℕ → ℕ → List Inputs
steps_from s at zero = []
steps_from s at (suc k) = cond (leb (next_at s at) (length s)) (step_at s at ∷ steps_from s (next_at s at) k) []

-- the steps that stand whole at the front: a step has bytes, so there are no more of them than bytes
unfoldable pub steps_of : List ℕ → List Inputs
steps_of s = steps_from s 0 (length s)

-- the buffer after a load of an image, with marks of n bytes and the buffer b, and after the steps where the load answers 0
unfoldable pub after_run : List ℕ → ℕ → List ℕ → List ℕ → List ℕ
after_run image n b steps =
    cond (eqb (load image n b).verdict.number 0) (buffer_after image (load image n b).buffer (steps_of steps)) (load image n b).buffer

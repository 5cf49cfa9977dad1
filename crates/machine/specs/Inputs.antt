-- What the host gives to a step besides the image and the state (document 01, "Running").
use Rattle.std.specs.Prelude.{ℕ, cond, List, eqb, get_or}

-- the host's part of a step: the task number, a byte for each input pin, the start input's level, and whether the axis's ramp has ended and its
-- position is in the window (change request 4)
pub record Inputs : Type 0 where
  pub task : ℕ
  pub levels : List ℕ
  pub start : ℕ
  pub ramp_ended : ℕ
  pub in_window : ℕ

-- a byte as a level: anything but 0 is high
abbrev pub level : ℕ → ℕ
level byte = cond (eqb byte 0) 0 1

-- the level of an input pin
abbrev pub input_at : List ℕ → ℕ → ℕ
input_at levels pin = level (get_or levels pin 0)

-- the host's part of a step, from its parts
abbrev pub inputs_of : ℕ → List ℕ → ℕ → ℕ → ℕ → Inputs
inputs_of task levels start ramp_ended in_window =
    record { task = task; levels = levels; start = start; ramp_ended = ramp_ended; in_window = in_window }

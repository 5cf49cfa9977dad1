-- The limits, each once, as the definitions have them; src/lib.rt has the code's. The reference machine has document 01's own numbers of tasks, cells and
-- inputs, the table of cases those that it names, so that a wrong limit is not wrong on both sides; proved_cases/proofs/Limits.antt holds each.
use Rattle.std.specs.Prelude.{ℕ, ◌+◌, ◌*◌, Bool, ◌&&◌, ltb, leb}

-- the tasks by document 01's numbers, and how many there are
abbrev pub bias : ℕ
bias = 0

abbrev pub plc : ℕ
plc = 1

abbrev pub mathematics : ℕ
mathematics = 2

abbrev pub task_count : ℕ
task_count = 3

-- the most blocks of an image, and the bytes of a block
abbrev pub most_blocks : ℕ
most_blocks = 1500

abbrev pub block_length : ℕ
block_length = 8

-- the most landing blocks (change request 1: "a landing count of 0 to 64")
abbrev pub most_landings : ℕ
most_landings = 64

-- the limit on depth (document 01, "depth (0 to 8)"; change request 6, "Make 5 the limit"): the most calls that a task may be inside of
abbrev pub most_depth : ℕ
most_depth = 5

-- depths 0 to the limit
abbrev pub depths : ℕ
depths = most_depth + 1

-- variables, flags, outputs: as many of each
abbrev pub cells : ℕ
cells = 256

-- levels of flags, pins and the start input
abbrev pub most_level : ℕ
most_level = 1

-- flags that 86 may read
abbrev pub most_run : ℕ
most_run = 32

-- a speed, in rpm
abbrev pub most_speed : ℕ
most_speed = 12000

-- an acceleration or deceleration, in 5 rpm/s
abbrev pub most_ramp : ℕ
most_ramp = 64000

-- the most that an operand of 59 says, in 2 ms, and a variable of 5A, in ms
abbrev pub most_time : ℕ
most_time = 65535

-- the longest wait, in ms
abbrev pub longest_wait : ℕ
longest_wait = 2 * most_time

-- the marks: one for each block, task and depth (13)
abbrev pub marks_length : ℕ
marks_length = most_blocks * task_count * depths

-- the state (document 01: stretch)
abbrev pub state_length : ℕ
state_length = 2048

-- the input levels: one for each pin number
abbrev pub inputs_length : ℕ
inputs_length = cells

-- a number from 1 up to the most
abbrev pub up_to : ℕ → ℕ → Bool
up_to most v = ltb 0 v && leb v most

-- Waits for a time (document 01, "Running"): T ms and k turns of the task.
use Rattle.std.specs.Prelude.{ℕ, ◌*◌, Bool, leb}
use Rattle.drive.specs.Types.{cycle_of}

-- a wait of T ms is over after k turns: k cycles are at least T, in microseconds
abbrev pub due : ℕ → ℕ → ℕ → Bool
due model time turns = leb (1000 * time) (turns * cycle_of model)

-- A program in which much happens at once: three tasks, calls inside calls, a wait, jumps by variable and a BIAS that the PLC starts by variable (change
-- request 1), a task that halts, and a return to start that starts the others again; and a list of steps of it. The theorem over lists of steps is not
-- empty: it speaks of this (proofs/Example.antt).
use Rattle.std.specs.Prelude.{ℕ, List, [], ◌∷◌, map, replicate, Ok, Err}
use Rattle.walk_point.specs.PointFault.{point}
use Rattle.state.specs.State.{runs, halted}
use Rattle.machine.specs.Inputs.{Inputs}
use Rattle.machine.specs.declared.Cause.TheVariants.{ZeroDivisor, NoLanding}
use Rattle.machine.specs.Answers.{Answer}
use Rattle.machine.specs.declared.NotDone.TheVariants.{NoTask, NotRunning, Halted}
use Rattle.proved_cases.specs.Images.{block, plain, toward, landing_image}

abbrev pub program : List ℕ
program =
    landing_image (5 ∷ 18 ∷ [])
    (toward 0x54 11 ∷  -- 0, BIAS: start the PLC
    toward 0x90 17 ∷  -- 1: start mathematics
    toward 0x52 7 ∷  -- 2: call
    toward 0x59 1 ∷  -- 3: wait for 2 ms
    toward 0x52 9 ∷  -- 4: call
    toward 0x52 20 ∷  -- 5, a landing block: call
    plain 0x51 ∷  -- 6: return to start
    toward 0x52 10 ∷  -- 7: a sub-program, which calls another
    plain 0x53 ∷  -- 8
    block 0x56 1 0 0 ∷  -- 9: a sub-program, which jumps to the block that variable 1 holds
    plain 0x53 ∷  -- 10: the other
    toward 0x52 13 ∷  -- 11, PLC: call
    toward 0x55 11 ∷  -- 12
    block 0x80 1 5 0 ∷  -- 13: a sub-program, which sets variable 1 to 5
    block 0x80 2 18 0 ∷  -- 14: and variable 2 to 18
    block 0x5B 1 0 0 ∷  -- 15: and starts BIAS at the block that variable 1 holds
    plain 0x53 ∷  -- 16
    block 0x56 2 0 0 ∷  -- 17, mathematics: jump to the block that variable 2 holds
    block 0x8D 3 2 4 ∷  -- 18, a landing block: variable 3 = variable 2 / variable 4, which is 0
    toward 0x55 18 ∷  -- 19
    block 0x60 1 1 0 ∷  -- 20: a sub-program, which sets flag 1
    plain 0x53 ∷  -- 21
    [])

-- a step of a task, with all inputs low
abbrev pub step_of : ℕ → Inputs
step_of t = record { task = t; levels = replicate 256 0; start = 0; ramp_ended = 0; in_window = 0 }

-- the tasks that step, in this order; there is no task 3
abbrev pub order : List ℕ
order =
    0 ∷ 0 ∷  -- BIAS starts the others
    2 ∷ 2 ∷  -- mathematics jumps while variable 2 is 0
    0 ∷ 1 ∷ 1 ∷ 0 ∷ 1 ∷ 0 ∷ 1 ∷  -- the PLC starts BIAS at block 5 out of a call
    0 ∷ 1 ∷ 0 ∷ 0 ∷ 0 ∷  -- BIAS calls, and returns to its start
    0 ∷ 0 ∷ 2 ∷ 2 ∷ 3 ∷  -- it starts the others again, and mathematics jumps to block 18
    0 ∷ 0 ∷ 0 ∷ 0 ∷  -- BIAS calls, calls inside, and comes back
    0 ∷ 0 ∷ 0 ∷  -- it waits
    0 ∷ 0 ∷  -- it calls, and jumps inside the call
    0 ∷ 0 ∷ 0 ∷ 0 ∷  -- it calls there, and returns to its start
    0 ∷ 0 ∷ 2 ∷ []

abbrev pub steps : List Inputs
steps = map step_of order

-- what is answered: mathematics halts by 22, then, started again, by 19; its step behind the 22 is refused by 18, that of task 3 by 15
abbrev pub example_answers : List Answer
example_answers =
    Ok tt ∷ Ok tt ∷ Err (Halted NoLanding (point 2 17 0)) ∷ Err NotRunning ∷ Ok tt ∷ Ok tt ∷ Ok tt ∷ Ok tt ∷ Ok tt ∷ Ok tt ∷ Ok tt ∷ Ok tt ∷ Ok tt ∷ Ok tt ∷ Ok tt ∷ Ok tt ∷ Ok tt ∷ Ok tt
    ∷ Ok tt ∷ Err (Halted ZeroDivisor (point 2 18 0)) ∷ Err (NoTask 3) ∷ replicate 16 (Ok tt)

-- what is left of a task
pub record Place : Type 0 where
  pub status : ℕ
  pub block : ℕ
  pub depth : ℕ

abbrev pub place : ℕ → ℕ → Place
place block depth = record { status = runs; block = block; depth = depth }

-- BIAS has come back to its start and started the others again, and mathematics has jumped again
abbrev pub places : List Place
places = place 2 0 ∷ place 11 0 ∷ place 18 0 ∷ []

-- after so many steps: the PLC's 5B has just taken BIAS out of its call, and later BIAS's own 56 has just landed inside one
abbrev pub until_start : ℕ
until_start = 11

abbrev pub places_at_start : List Place
places_at_start = place 5 0 ∷ place 16 1 ∷ record { status = halted; block = 17; depth = 0 } ∷ []

abbrev pub until_jump : ℕ
until_jump = 30

abbrev pub places_at_jump : List Place
places_at_jump = place 5 1 ∷ place 11 0 ∷ record { status = halted; block = 18; depth = 0 } ∷ []

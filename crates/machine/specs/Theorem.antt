-- What is proved of steps on values: the theorem over every list of steps (demand 3, parts 1 to 6, 8 and 9 in docs/PROMISES.md; part 7 is `exactly` in
-- walk/proofs/Verdicts/OfImage.antt), proved as `every_value_run` in proofs/Runs/EveryRun.antt; and that a step keeps good states, proved as `keeps_good` in
-- proofs/Steps/KeepsGood.antt.
use Rattle.std.specs.Prelude.{ℕ, ◌<◌, ◌≡◌, List, Ok}
use Rattle.limits.specs.Limits.{task_count}
use Rattle.num_le.specs.LittleEndian.{Bytes}
use Rattle.image_header.specs.Scan.{header_of, landings_of}
use Rattle.walk.specs.Verdict.{verdict_of}
use Rattle.state.specs.State.{runs, task_at, fresh}
use Rattle.state.specs.GoodState.{GoodState}
use Rattle.state.specs.declared.State.{State}
use Rattle.machine.specs.Inputs.{Inputs}
use Rattle.machine.specs.Engine.{step}
use Rattle.machine.specs.Reference.{reference_loaded}
use Rattle.machine.specs.Alike.{Alike}
use Rattle.machine.specs.Run.{outs, state_after, reference_outs, machine_after, SameHanded, Permitted}
use Rattle.machine.specs.StepRule.{no_past, EachStep}

-- what the engine begins with; the reference machine begins with `reference_loaded`
abbrev pub loaded : List ℕ → State
loaded image = fresh (header_of image).header (landings_of image)

-- of an image and a list of steps from its load
pub record ValueRun (image : List ℕ) (xs : List Inputs) : Type 0 where
  -- 1. every answer and every motion request is the reference machine's, step by step
  pub answers : SameHanded (outs image (loaded image) xs) (reference_outs image (reference_loaded image) xs)
  -- 2. afterwards the two states are alike in each thing that document 01 compares
  pub alike : Alike (state_after image (loaded image) xs) (machine_after image (reference_loaded image) xs)
  -- 3. afterwards each task that runs is at a block of the image that is permitted to it, at its depth, which is at most the limit
  pub permitted : (t : ℕ) → t < task_count → (task_at (state_after image (loaded image) xs) t).status ≡ runs
      → Permitted image t (task_at (state_after image (loaded image) xs) t)
  -- 4, 5, 6, 8 and 9. at every step: a return goes behind its task's latest open call; a task stops by its own step alone, and for a reason; other tasks
  -- stay; a 58 goes on exactly when its wait is over; a 56 and a 5B lead to the landing block that their variable holds
  pub steps : EachStep image no_past (loaded image) xs
  -- and the state afterwards is a good one, where the image's bytes are bytes
  pub good : Bytes image → GoodState (state_after image (loaded image) xs)

-- every image that is accepted, with marks of any length, and every list of steps: any task numbers, any input levels
abbrev pub EveryValueRun : Type 0
EveryValueRun = (image : List ℕ) (marks : ℕ) → verdict_of image marks ≡ Ok tt → (xs : List Inputs) → ValueRun image xs

-- a good state stays good, whatever bytes the image has and whatever the step is given, in a run or not
abbrev pub KeepsGood : Type 0
KeepsGood = (image : List ℕ) → Bytes image → (s : State) → GoodState s → (x : Inputs) → GoodState (step image s x).state

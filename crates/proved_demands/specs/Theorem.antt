-- Demand 3, of the functions that C calls (docs/PROMISES.md numbers its parts), as one claim, `Demand`: parts 1 to 6, 8 and 9 are `EveryRun`, part 7 is
-- `EveryLoad`, with the user's own sentence beside it. Proved as `demand` in proofs/Demand.antt.
use Rattle.std.specs.Prelude.{ℕ, ◌<◌, ◌≤◌, ◌≡◌, Bool, true, false, ◌↔◌, ◌⊎◌, List, [], ◌∷◌, length, Ok, Err}
use Rattle.limits.specs.Limits.{task_count, marks_length, state_length}
use Rattle.num_le.specs.LittleEndian.{Bytes}
use Rattle.image_result.specs.ImageResult.{done}
use Rattle.image_header.specs.Scan.{header_of, blocks_of}
use Rattle.walk_point.specs.declared.Point.{Point}
use Rattle.walk_flow.specs.Terms.{terms_of}
use Rattle.walk.specs.IsVerdict.{BadAt, ForeignAt, NoForeign, BlockPasses, IsVerdict}
use Rattle.walk.specs.Verdict.{Verdict}
use Rattle.walk.specs.declared.Refusal.TheVariants.{MarksShort}
use Rattle.state.specs.State.{runs, task_at}
use Rattle.state_layout.specs.Layout.{decoded, encoded}
use Rattle.state_layout.specs.IsState.{is_state}
use Rattle.machine.specs.Inputs.{Inputs}
use Rattle.machine.specs.Engine.{step}
use Rattle.machine.specs.Reference.{reference_loaded}
use Rattle.machine.specs.Alike.{Alike}
use Rattle.machine.specs.Run.{machine_after, Permitted}
use Rattle.machine.specs.Theorem.{loaded}
use Rattle.machine.specs.StepRule.{Past, no_past, past_after, StepRule}
use Rattle.machine.specs.Answers.{Answer}
use Rattle.machine.specs.declared.NotDone.TheVariants.{NoTask, Inputs as BadInputs, NotRunning, Differs, Halted}
use Rattle.bias_results.specs.Results.{no_state, numbered, verdict_for, answer_for}
use Rattle.bias_results.specs.declared.BiasVerdict.{BiasVerdict}
use Rattle.bias.specs.Load.{load}
use Rattle.bias.specs.Step.{stepped}
use Rattle.proved_demands.specs.Run.{answers, buffer_after, reference_answers}

-- ---- a step of a buffer, and every step of a list

-- a step that is refused, and so neither carried out nor halting
abbrev pub refused : Answer → Bool
refused (Ok _) = false
refused (Err (NoTask t)) = true
refused (Err (BadInputs n)) = true
refused (Err NotRunning) = true
refused (Err (Differs p)) = true
refused (Err (Halted q p)) = false

-- 17: the lent image differs from the loaded one
abbrev pub differs : Answer → Bool
differs (Ok _) = false
differs (Err (NoTask t)) = false
differs (Err (BadInputs n)) = false
differs (Err NotRunning) = false
differs (Err (Differs p)) = true
differs (Err (Halted q p)) = false

pub record StepOn (image : List ℕ) (past : Past) (b : List ℕ) (x : Inputs) : Type 0 where
  -- the buffer is a state
  pub held : is_state b ≡ true
  -- parts 4, 5, 6, 8 and 9 (machine/specs/StepRule.antt), of the state that the buffer holds
  pub parts : StepRule image past (decoded b) x
  -- which are of this step: what it hands out is the answer, and the state after it is what the buffer holds then
  pub answer : (stepped image b x).answer ≡ answer_for (step image (decoded b) x).request (step image (decoded b) x).answer
  pub state : decoded (stepped image b x).buffer ≡ (step image (decoded b) x).state
  -- it is not refused by 17 (nor by 16, since the buffer is a state)
  pub same : differs (step image (decoded b) x).answer ≡ false
  -- refused, it leaves the buffer as it was
  pub stays : refused (step image (decoded b) x).answer ≡ true → (stepped image b x).buffer ≡ b

pub data EveryStepOn (image : List ℕ) : Past → List ℕ → List Inputs → Type 0 where
  -- the list has come to its end
  none : {past : Past} {b : List ℕ} → EveryStepOn image past b []
  more : {past : Past} {b : List ℕ} {x : Inputs} {xs : List Inputs} → StepOn image past b x
      → EveryStepOn image (past_after image (decoded b) x past) (stepped image b x).buffer xs → EveryStepOn image past b (x ∷ xs)

-- ---- the theorem

-- of an image, the buffer that its load left, and a list of steps
pub record Run (image b : List ℕ) (xs : List Inputs) : Type 0 where
  -- 1. every answer and every field of every motion request is the reference machine's, step by step
  pub same : answers image b xs ≡ reference_answers image (reference_loaded image) xs
  -- 2. afterwards the two states are alike in each thing that document 01 compares
  pub alike : Alike (decoded (buffer_after image b xs)) (machine_after image (reference_loaded image) xs)
  -- 3. afterwards each task that runs is at a block of the image that is permitted to it, at its depth, which is at most the limit
  pub permitted : (t : ℕ) → t < task_count → (task_at (decoded (buffer_after image b xs)) t).status ≡ runs
      → Permitted image t (task_at (decoded (buffer_after image b xs)) t)
  -- 4, 5, 6, 8 and 9. at every step
  pub steps : EveryStepOn image no_past b xs
  -- and the buffer afterwards is a state
  pub held : is_state (buffer_after image b xs) ≡ true

-- every image, marks of any length and every buffer with which load answers 0, and every list of steps: any task numbers, any input levels
abbrev pub EveryRun : Type 0
EveryRun = (image : List ℕ) (n : ℕ) (b : List ℕ) → Bytes image → (load image n b).verdict.number ≡ 0 → (xs : List Inputs)
    → Run image (load image n b).buffer xs

-- ---- part 7: loads

-- 13, then 16, then what the image comes to (walk/specs/IsVerdict.antt): the header, the first block that 5 to 8 or 23 refuse, and else what walks say
pub data Loads (image : List ℕ) (n : ℕ) (b : List ℕ) : BiasVerdict → Type 0 where
  marks : n < marks_length → Loads image n b (verdict_for (Err (MarksShort n)))
  buffer : marks_length ≤ n → (length b ≡ state_length → ⊥) → Loads image n b (numbered no_state 0)
  judged : marks_length ≤ n → length b ≡ state_length → (v : Verdict) → IsVerdict image n v → Loads image n b (verdict_for v)

pub record LoadOf (image : List ℕ) (n : ℕ) (b : List ℕ) : Type 0 where
  -- the answer is that, and nothing else is
  pub answer : (v : BiasVerdict) → Loads image n b v ↔ (v ≡ (load image n b).verdict)
  -- after 0 the buffer holds the fresh state, and else it is as it was
  pub accepted : (load image n b).verdict.number ≡ 0 → (load image n b).buffer ≡ encoded (loaded image)
  pub refused : ((load image n b).verdict.number ≡ 0 → ⊥) → (load image n b).buffer ≡ b

abbrev pub EveryLoad : Type 0
EveryLoad = (image : List ℕ) (n : ℕ) (b : List ℕ) → LoadOf image n b

-- header, blocks and lent lengths are well formed
pub record WellFormed (image : List ℕ) (n : ℕ) (b : List ℕ) : Type 0 where
  -- 13, 16, 1 to 4, 21 and, of each block by itself, 5 to 8 and 23 let them pass
  pub marks : marks_length ≤ n
  pub buffer : length b ≡ state_length
  pub header : done (header_of image).result ≡ true
  pub blocks : (k : ℕ) → k < (header_of image).header.count → BlockPasses (terms_of image) (blocks_of image) k

-- some walk reaches a bad place
pub record SomeBad (image : List ℕ) : Type 0 where
  pub place : Point
  pub bad : BadAt (terms_of image) (blocks_of image) place

-- some walk reaches a 51 that would end another task
pub record SomeForeign (image : List ℕ) : Type 0 where
  pub place : Point
  pub foreign : ForeignAt (terms_of image) (blocks_of image) place

-- a load of bytes that are well formed is refused exactly when .., in both readings of document 01's "well formed" (docs/DECISIONS.md, the border to C)
pub record RefusedExactly : Type 0 where
  -- the form is that of header, blocks and lengths alone: when some walk reaches a bad place or a 51 that would end another task
  pub by_form : (image : List ℕ) (n : ℕ) (b : List ℕ) → WellFormed image n b → ((load image n b).verdict.number ≡ 0 → ⊥) ↔ (SomeBad image ⊎ SomeForeign image)
  -- the 7 of such a 51 counts as form too: when some walk reaches a bad place
  pub by_place : (image : List ℕ) (n : ℕ) (b : List ℕ) → WellFormed image n b → NoForeign (terms_of image) (blocks_of image)
      → ((load image n b).verdict.number ≡ 0 → ⊥) ↔ SomeBad image

-- ---- the whole

pub record Demand : Type 0 where
  pub runs : EveryRun
  pub loads : EveryLoad
  pub exactly : RefusedExactly

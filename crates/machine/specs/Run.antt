-- Runs (document 01, "Runs and the plain machine"): a list of steps from a fresh load, the state handed from step to step.
use Rattle.std.specs.Prelude.{ℕ, ◌<◌, ◌≤◌, ◌≡◌, List, [], ◌∷◌, Ok}
use Rattle.limits.specs.Limits.{most_depth}
use Rattle.image_header.specs.Scan.{header_of, blocks_of}
use Rattle.walk_flow.specs.Terms.{terms_of}
use Rattle.walk.specs.Blocks.{fault_at, block_number}
use Rattle.state.specs.declared.Task.{Task}
use Rattle.state.specs.declared.State.{State}
use Rattle.machine.specs.Inputs.{Inputs}
use Rattle.machine.specs.Engine.{step, point_of}
use Rattle.machine.specs.declared.StepOut.{StepOut}
use Rattle.machine.specs.Reference.{Machine, ReferenceOut, reference_step}

-- what the engine hands out, step by step, and the state after the list
unfoldable pub outs : List ℕ → State → List Inputs → List StepOut
outs image s [] = []
outs image s (x ∷ xs) = step image s x ∷ outs image (step image s x).state xs

unfoldable pub state_after : List ℕ → State → List Inputs → State
state_after image s [] = s
state_after image s (x ∷ xs) = state_after image (step image s x).state xs

-- the same of the reference machine
unfoldable pub reference_outs : List ℕ → Machine → List Inputs → List ReferenceOut
reference_outs image m [] = []
reference_outs image m (x ∷ xs) = reference_step image m x ∷ reference_outs image (reference_step image m x).machine xs

unfoldable pub machine_after : List ℕ → Machine → List Inputs → Machine
machine_after image m [] = m
machine_after image m (x ∷ xs) = machine_after image (reference_step image m x).machine xs

-- part 1: answers and motion requests are the same, step by step
pub data SameHanded : List StepOut → List ReferenceOut → Type 0 where
  none : SameHanded [] []
  more : {o : StepOut} {d : ReferenceOut} {os : List StepOut} {ds : List ReferenceOut} → o.answer ≡ d.answer → o.request ≡ d.request → SameHanded os ds
      → SameHanded (o ∷ os) (d ∷ ds)

-- part 3: a task that runs is at a block of the image that is permitted to it on that drive, at its depth, which is at most the limit
pub record Permitted (image : List ℕ) (t : ℕ) (task : Task) : Type 0 where
  pub block : task.block < (header_of image).header.count
  pub sound : block_number (terms_of image) (blocks_of image) task.block ≡ 0
  pub fine : fault_at (terms_of image) (blocks_of image) (point_of t task) ≡ Ok tt
  pub depth : task.depth ≤ most_depth

-- What the engine's functions share: truths twice negated, what a task has room for, and the step by its tests.
use Rattle.std.specs.Prelude.{Ok, Err}
use Prim.Native.Nat.{ℕ, ◌<◌, ◌≤◌}
use mathlib.Core.Path.{◌≡◌, refl, sym, ap, ◌∙◌}
use mathlib.Core.Bool.{Bool, true, false, ◌&&◌, ◌||◌, not, cond}
use mathlib.Core.List.{List}
use native.Mathlib.Omega.{arith}
use lib.Dec.{eqb}
use lib.IntN.{pos}
use lib.ListN.{length}
use borrow.Author.Tests.{eq-eqb, ne_eqb, lt-ltb, le-ltb}
use Rattle.limits.specs.Limits.{task_count, most_blocks, most_depth, inputs_length}
use Rattle.logic.proofs.Choice.{clash, both}
use Rattle.image_header.specs.Scan.{read_result, header_of, landings_of, blocks_of}
use Rattle.image_header.specs.Rows.{same_header, same_landings}
use Rattle.image_header.proofs.Read.{handed, refused}
use Rattle.image_header.specs.declared.reader.HeaderRead.{HeaderRead}
use Rattle.image_result.specs.declared.ImageFault.{ImageFault}
use Rattle.image_header.specs.declared.Header.{Header}
use Rattle.command_operands.specs.Operands.{command}
use Rattle.command_operands.specs.declared.Command.{Command}
use Rattle.command_operands.specs.Operands.{laid_out, operands}
use Rattle.command_table.specs.Rows.{row_of}
use Rattle.command_judge.specs.BlockFault.{row_fault, block_fault, block_fault_number}
use Rattle.walk_flow.specs.Terms.{Terms, under, by_header}
use Rattle.walk_flow.specs.Flow.{flow_of}
use Rattle.walk_flow.specs.Permission.{permitted}
use Rattle.walk_fault.specs.Fault.{fault_number}
use Rattle.walk_fault.specs.Fault.{FaultResult}
use Rattle.walk_point.specs.PointFault.{fault_of}
use Rattle.walk_point.specs.declared.Point.{Point}
use Rattle.walk.specs.Blocks.{block_at, command_at, fault_at}
use Rattle.walk_blocks.specs.Instructions.{instruction_of}
use Rattle.walk_blocks.specs.declared.Instruction.{Instruction}
use Rattle.walk_blocks.proofs.RowOfCode.{row_of_code}
use Rattle.state.specs.State.{runs, task_at}
use Rattle.state.specs.GoodState.{GoodState}
use Rattle.state.proofs.Bounds.{wait_fits_lem}
use Rattle.state.specs.declared.Task.{Task}
use Rattle.state.specs.declared.State.{State}
use Rattle.machine.specs.Inputs.{Inputs}
use Rattle.machine.specs.Engine.{point_of, refuse, fits, carried_out, task_step, step, is_loaded, block_fits, wait_fits, is_wait, terms_held}
use Rattle.machine.specs.Effect.{is_set}
use Rattle.machine.specs.declared.NotDone.{NotDone}
use Rattle.machine.specs.declared.NotDone.TheVariants.{NoTask, Inputs as BadInputs, NotRunning, Differs}
use Rattle.machine.specs.Answers.{Answer}
use Rattle.exec_step.specs.Readiness.{passes, ready_for}
use Rattle.std.specs.Prelude.{Result, Ok, Err}

pub not_not : (t : Bool) → t ≡ not (not t)
not_not true = refl
not_not false = refl

-- what a good state's task has room for
pub record Room (task : Task) : Type 0 where
  pub block : task.block < most_blocks
  pub depth : task.depth ≤ most_depth
  pub turns : task.turns < 4294967295

pub room : (s : State) → GoodState s → (t : ℕ) → t < task_count → Room (task_at s t)
room s g t l =
    let good = g.task t l in
    let b = good.block in
    let n = g.header.count.1 in
    record { block = omega arith; depth = good.depth; turns = (wait_fits_lem _ _ _ g.header.model good.wait).1 }

-- ---- the tests in their order

-- ---- what was read of a block

module _ (i : Instruction) (block : List ℕ) (e : i ≡ instruction_of block) where
  pub laid : i.command ≡ laid_out i.row.layout block
  unfolding operands
  laid = rw e refl

  pub coded : i.row ≡ row_of i.command.code
  coded = rw e (row_of_code block)

  pub judged : (h : Header) → row_fault i.row h block ≡ block_fault h block
  unfolding block_fault
  judged h = rw e refl

-- no landing block decides what a point breaks
same_fault : (h : Header) (m : List ℕ) (c : Command) (p : Point) → fault_of (by_header h) c p ≡ fault_of (under h m) c p
unfolding fault_of flow_of permitted
same_fault h m c p = refl

-- the three tests of 17 are those of the image, its header and its block
pub fits_is : (image : List ℕ) (h : Header) (m : List ℕ) (t : ℕ) (task : Task) (r : HeaderRead) (l bs block : List ℕ) (i : Instruction) (p : Point) (x y z : Bool)
    → read_result (header_of image) ≡ Ok r → l ≡ landings_of image → bs ≡ blocks_of image → block ≡ block_at bs task.block → i ≡ instruction_of block
    → p ≡ point_of t task → x ≡ (same_header r.header h && same_landings h.landings l (under h m).landings) → y ≡ passes h block i.command p → z ≡ (not (is_set task.time) || is_wait i.command.code)
    → (x && (y && z)) ≡ fits image (under h m) t task
unfolding fits fault_at command_at
fits_is image h m t task r l bs block i p x y z e₁ e₂ e₃ e₄ e₅ e₆ e₇ e₈ e₉ =
    let q = e₈ ∙ ap (λ (f : FaultResult). eqb (block_fault_number (block_fault h block)) 0 && eqb (fault_number f) 0) (same_fault h m i.command p) in
    let is = handed image r e₁ in
    rw (e₇, q, e₉, e₆, e₅, e₄, e₃, e₂, is.header, is.result) refl

-- an image that is refused is not the one that was loaded
pub not_loaded : (image : List ℕ) (terms : Terms) (t : ℕ) (task : Task) (f : ImageFault) → read_result (header_of image) ≡ Err f → fits image terms t task ≡ false
unfolding fits
not_loaded image terms t task f e = rw (refused image f e) refl

-- the command of the instruction is that of the block
pub command_here : (image : List ℕ) (task : Task) (bs block : List ℕ) (i : Instruction) → bs ≡ blocks_of image → block ≡ block_at bs task.block
    → i ≡ instruction_of block → i.command ≡ command_at (blocks_of image) task.block
unfolding command_at
command_here image task bs block i e₂ e₃ e₄ = rw (e₄, e₃, e₂) refl

-- ---- the step by what was found

-- what stands against a step, and the command that it carries out, of what was found
answer_of : Result Command NotDone → Answer
answer_of (Err a) = Err a
answer_of (Ok _) = Ok tt

command_of : Result Command NotDone → Command
command_of (Err a) = command 0 0 0 0 0 (pos 0)
command_of (Ok c) = c

carries : Result Command NotDone → Bool
carries (Err a) = false
carries (Ok c) = true

-- and they say what the step is
module _ (image : List ℕ) (s : State) (x : Inputs) (task : Task) where
  abbrev here : Command
  here = command_at (blocks_of image) task.block

  pub refused_step : (a : NotDone) → Err a ≡ ready_for image (terms_held s) x.task task → task_step image s x task ≡ refuse s (Err a)
  unfolding ready_for task_step answer_of carries
  refused_step a e = go (eqb task.status runs) (fits image (terms_held s) x.task task) e
    where
      go : (t u : Bool) → Err a ≡ cond t (cond u (Ok here) (Err (Differs (point_of x.task task)))) (Err NotRunning)
          → cond t (cond u (carried_out (blocks_of image) s x task) (refuse s (Err (Differs (point_of x.task task))))) (refuse s (Err NotRunning)) ≡ refuse s (Err a)
      go true true i = clash (sym (ap carries i))
      go true false i = ap (refuse s) (sym (ap answer_of i))
      go false u i = ap (refuse s) (sym (ap answer_of i))

  -- the command is that of the block, whose fault is none
  pub record Carried (c : Command) : Type 0 where
    pub is : c ≡ here
    pub fitting : block_fits (terms_held s) (blocks_of image) x.task task ≡ true
    pub step_is : task_step image s x task ≡ carried_out (blocks_of image) s x task

  pub carried_step : (c : Command) → Ok c ≡ ready_for image (terms_held s) x.task task → Carried c
  unfolding ready_for task_step carries command_of fits
  carried_step c e = go (eqb task.status runs) (fits image (terms_held s) x.task task) refl refl e
    where
      go : (t u : Bool) → eqb task.status runs ≡ t → fits image (terms_held s) x.task task ≡ u
          → Ok c ≡ cond t (cond u (Ok here) (Err (Differs (point_of x.task task)))) (Err NotRunning) → Carried c
      go true true i j k = record {
        is = ap command_of k;
        fitting = (both (block_fits (terms_held s) (blocks_of image) x.task task) (wait_fits (blocks_of image) task) (both (is_loaded (header_of image) (landings_of image)
            (terms_held s)) _ j).1).0;
        step_is = rw (i, j);
      }
      go true false i j k = clash (ap carries k)
      go false u i j k = clash (ap carries k)

module _ (image : List ℕ) (s : State) (x : Inputs) where
  pub no_task_lem : task_count ≤ x.task → refuse s (Err (NoTask x.task)) ≡ step image s x
  unfolding step
  no_task_lem l = rw (le-ltb x.task task_count l) refl

  pub bad_inputs_lem : x.task < task_count → (length x.levels ≡ inputs_length → ⊥) → refuse s (Err (BadInputs (length x.levels))) ≡ step image s x
  unfolding step
  bad_inputs_lem l n = rw (lt-ltb x.task task_count l, ne_eqb (length x.levels) inputs_length n) refl

  pub of_task : x.task < task_count → length x.levels ≡ inputs_length → task_step image s x (task_at s x.task) ≡ step image s x
  unfolding step
  of_task l e = rw (lt-ltb x.task task_count l, eq-eqb (length x.levels) inputs_length e) refl

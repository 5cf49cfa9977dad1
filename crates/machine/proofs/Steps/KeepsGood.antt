-- A step keeps good states, whatever the image and the inputs are: 17 lets a command pass only where 5 to 12 and 23 do.
use Rattle.std.specs.Prelude.{Err, Ok}
use Prim.Native.Nat.{ℕ, zero, suc, ◌+◌, ◌-◌, ◌<◌, ◌≤◌}
use mathlib.Core.Path.{◌≡◌, refl, sym, ◌∙◌, subst}
use mathlib.Core.Bool.{Bool, true, false, ◌&&◌, cond}
use mathlib.Core.List.{List, []}
use native.Mathlib.Omega.{arith}
use native.Mathlib.Decide.{ℕ_discrete}
use lib.Dec.{eqb, ltb}
use lib.ListN.{length, get_or, set, drop, length-set}
use lib.Seq.{get_or-set_same, get_or-set_other, get_or-drop}
use borrow.Author.Tests.{eqb-true, eqb-false, leb-false, ltb-true}
use Rattle.logic.proofs.Lists.{at_set}
use Rattle.limits.specs.Limits.{bias, task_count, most_depth, inputs_length}
use Rattle.num_le.specs.LittleEndian.{Bytes}
use Rattle.image_result.specs.ImageResult.{done}
use Rattle.image_header.specs.Scan.{header_of, landings_of, blocks_of}
use Rattle.image_header.specs.declared.Header.{Header}
use Rattle.logic.proofs.Choice.{both}
use Rattle.command_operands.specs.declared.Command.{Command}
use Rattle.walk_flow.specs.Flow.{flow_of}
use Rattle.walk_fault.proofs.NoFault.{no_fault}
use Rattle.walk_fault.specs.Fault.{fault_number}
use Rattle.walk_point.specs.declared.Point.{Point}
use Rattle.walk.specs.Blocks.{block_at, command_at, fault_at, block_number}
use Rattle.walk.specs.Graph.{In}
use Rattle.walk.specs.Successors.{leads_to as walked, flow_at, successors, WalkBounds}
use Rattle.walk.proofs.Points.Bounds.{good_bounds}
use Rattle.walk.proofs.Points.Within.{Within, Passes, passes, successors_within}
use Rattle.state.specs.State.{runs, ended, halted, no_task, task_at}
use Rattle.state.specs.GoodState.{GoodWait, GoodTask, GoodState}
use Rattle.state.specs.declared.Task.{Task}
use Rattle.state.specs.declared.State.{State}
use Rattle.state.proofs.Fresh.{get_d_replicate}
use Rattle.walk_flow.specs.Terms.{Terms}
use Rattle.machine.specs.Inputs.{Inputs}
use Rattle.machine.specs.Effect.{effect_of}
use Rattle.machine.specs.Engine.{go_to, stay_with, call_to, return_from, start_anew, restarted, stopped, tasks_after, point_of, context_of, performed, is_loaded}
use Rattle.machine.specs.Engine.{block_fits, wait_fits, fits, refuse, task_step, step, terms_held}
use Rattle.machine.specs.declared.StepOut.{StepOut}
use Rattle.machine.specs.Allows.{Allows}
use Rattle.machine.specs.Theorem.{KeepsGood}
use Rattle.machine.specs.Answers.{Answer}
use Rattle.machine.specs.declared.NotDone.TheVariants.{NoTask, Inputs as BadInputs, NotRunning, Differs}
use Rattle.machine.specs.declared.Effect.{Effect}
use Rattle.machine.specs.declared.Outcome.{Outcome}
use Rattle.machine.specs.declared.Outcome.TheVariants.{GoOn, Stay, Jump, Call, Return, Start, Restart, End, Halt}
use Rattle.machine.proofs.Rows.Forms.{Law, Staying, Fit}
use Rattle.machine.proofs.Rows.EveryLaw.{every_law}
use Rattle.machine.proofs.Rows.Operands.{BlockBytes, fit}
use Rattle.machine.proofs.Rows.Outcomes.{on_in, jump_in, call_in, behind_in, call_deep, return_deep, start_in, start_on}
use Rattle.machine.proofs.Steps.TasksAfter.{set_set}
use Rattle.machine.proofs.Steps.Notes.{noted_good, refused_alike}
use Rattle.machine.proofs.Steps.Together.{used_carried}

-- ---- tasks

module _ (h : Header) where
  module _ (own : Task) (g : GoodTask h own) where
    go_good : (b : ℕ) → b < h.count → GoodTask h (go_to b own)
    go_good b l = record {
      status = omega arith;
      block = l;
      start = g.start;
      depth = g.depth;
      long = g.long;
      under = g.under;
      above = g.above;
      wait = GoodWait.none;
    }

    stay_good : (time turns : ℕ) → GoodWait h.drive.model time turns → GoodTask h (stay_with time turns own)
    stay_good time turns w = record {
      status = omega arith;
      block = g.block;
      start = g.start;
      depth = g.depth;
      long = g.long;
      under = g.under;
      above = g.above;
      wait = w;
    }

    stop_good : (status : ℕ) → status ≤ halted → GoodTask h (stopped status own)
    stop_good status l = record {
      status = l;
      block = g.block;
      start = g.start;
      depth = g.depth;
      long = g.long;
      under = g.under;
      above = g.above;
      wait = GoodWait.none;
    }

    call_good : (a : ℕ) → a < h.count → own.block + 1 < h.count → own.depth < most_depth → GoodTask h (call_to a own)
    call_good a l n d = record {
      status = omega arith;
      block = l;
      start = g.start;
      depth = omega arith;
      long = length-set own.stack own.depth (own.block + 1) ∙ g.long;
      under = λ i j. entry i j (ℕ_discrete i own.depth);
      above = λ i j. get_or-set_other own.stack own.depth i (own.block + 1) 0 (omega arith) ∙ g.above i (omega arith);
      wait = GoodWait.none;
    }
      where
        entry : (i : ℕ) → i < own.depth + 1 → Dec (i ≡ own.depth) → get_or (set own.stack own.depth (own.block + 1)) i 0 < h.count
        entry i j (yes e) = let m = g.long in rw (e, get_or-set_same own.stack own.depth (own.block + 1) 0 (omega arith)) n
        entry i j (no e) = rw (get_or-set_other own.stack own.depth i (own.block + 1) 0 e) (g.under i (omega arith))

    return_good : (own.depth ≡ 0 → ⊥) → GoodTask h (return_from own)
    return_good n = let d = g.depth in record {
      status = omega arith;
      block = g.under (own.depth - 1) (omega arith);
      start = g.start;
      depth = omega arith;
      long = length-set own.stack (own.depth - 1) 0 ∙ g.long;
      under = λ i j. rw (get_or-set_other own.stack (own.depth - 1) i 0 0 (omega arith)) (g.under i (omega arith));
      above = λ i j. entry i j (ℕ_discrete i (own.depth - 1));
      wait = GoodWait.none;
    }
      where
        entry : (i : ℕ) → own.depth - 1 ≤ i → Dec (i ≡ own.depth - 1) → get_or (set own.stack (own.depth - 1) 0) i 0 ≡ 0
        entry i j (yes e) = let m = g.long in let d = g.depth in rw (e, get_or-set_same own.stack (own.depth - 1) 0 0 (omega arith)) refl
        entry i j (no e) = get_or-set_other own.stack (own.depth - 1) i 0 0 e ∙ g.above i (omega arith)

    restart_good : GoodTask h (restarted own)
    restart_good = record {
      status = omega arith;
      block = g.start;
      start = g.start;
      depth = omega arith;
      long = refl;
      under = λ i l. absurd (omega arith);
      above = λ i l. get_d_replicate {A = ℕ} most_depth 0 i;
      wait = GoodWait.none;
    }

  start_good : (u a : ℕ) → a < h.count → h.start < h.count → GoodTask h (start_anew h.start u a)
  start_good u a l f = record {
    status = omega arith;
    block = l;
    start = home (eqb u bias);
    depth = omega arith;
    long = refl;
    under = λ i j. absurd (omega arith);
    above = λ i j. get_d_replicate {A = ℕ} most_depth 0 i;
    wait = GoodWait.none;
  }
    where
      home : (t : Bool) → cond t h.start a < h.count
      home true = f
      home false = l

  -- ---- the three tasks

  record GoodTasks (l : List Task) : Type 0 where
    three : length l ≡ task_count
    task : (t : ℕ) → t < task_count → GoodTask h (get_or l t no_task)
    first : (get_or l bias no_task).start ≡ h.start

  put_good : (l : List Task) (t : ℕ) (own : Task) → GoodTasks l → t < task_count → GoodTask h own → (t ≡ bias → own.start ≡ h.start) → GoodTasks (set l t own)
  put_good l t own g i d f =
      let n = g.three in
      record {
        three = length-set l t own ∙ g.three;
        task = at_set no_task (λ u q. u < task_count → GoodTask h q) l t own (omega arith) (λ _. d) (λ u _ j. g.task u j);
        first = at_set no_task (λ u q. u ≡ bias → q.start ≡ h.start) l t own (omega arith) f (λ u _ e. rw e g.first) bias refl;
      }

-- ---- bytes

module _ (image : List ℕ) (bytes : Bytes image) where
  block_bytes : (k : ℕ) → get_or (blocks_of image) k 0 < 256
  unfolding blocks_of
  block_bytes k = go (done (header_of image).result)
    where
      go : (t : Bool) → get_or (cond t (drop (header_of image).at image) []) k 0 < 256
      go true = rw (get_or-drop (header_of image).at image k 0) (bytes ((header_of image).at + k))
      go false = omega arith

  bytes_at : (b : ℕ) → BlockBytes (block_at (blocks_of image) b)
  bytes_at b zero = block_bytes _
  bytes_at b (suc zero) = block_bytes _
  bytes_at b (suc (suc zero)) = block_bytes _
  bytes_at b (suc (suc (suc zero))) = block_bytes _
  bytes_at b (suc (suc (suc (suc zero)))) = block_bytes _
  bytes_at b (suc (suc (suc (suc (suc zero))))) = block_bytes _
  bytes_at b (suc (suc (suc (suc (suc (suc zero)))))) = block_bytes _
  bytes_at b (suc (suc (suc (suc (suc (suc (suc zero))))))) = block_bytes _
  bytes_at b (suc (suc (suc (suc (suc (suc (suc (suc k)))))))) = omega arith

-- ---- a command that 17 lets pass

module _ (image : List ℕ) (bytes : Bytes image) (s : State) (g : GoodState s) (x : Inputs) (l : x.task < task_count)
    (r : (task_at s x.task).status ≡ runs) (pass : fits image (terms_held s) x.task (task_at s x.task) ≡ true) where
  abbrev t : ℕ
  t = x.task

  abbrev own : Task
  own = task_at s t

  abbrev h : Header
  h = s.header

  abbrev terms : Terms
  terms = terms_held s

  abbrev ls : List ℕ
  ls = terms.landings

  abbrev bs : List ℕ
  bs = blocks_of image

  abbrev p : Point
  p = point_of t own

  abbrev c : Command
  c = command_at bs own.block

  abbrev e : Effect
  e = effect_of x.levels ls (context_of s own x) c s.values

  known : GoodTask h own
  known = g.task t l

  -- the block, by 5 to 8 and 23, and at its point by 9 to 12
  block_fits_lem : (eqb (block_number terms bs own.block) 0 ≡ true) × (eqb (fault_number (fault_at terms bs p)) 0 ≡ true)
  unfolding fits
  block_fits_lem =
      let a = both (is_loaded (header_of image) (landings_of image) terms) (block_fits terms bs t own && wait_fits bs own) pass in
      let b = both (block_fits terms bs t own) (wait_fits bs own) a.1 in
      both (eqb (block_number terms bs own.block) 0) (eqb (fault_number (fault_at terms bs p)) 0) b.0

  fault_free : fault_at terms bs p ≡ Ok tt
  fault_free = no_fault (fault_at terms bs p) (eqb-true _ 0 block_fits_lem.1)

  passed : Passes terms c p
  unfolding fault_at
  passed = passes terms c p fault_free

  bounds : WalkBounds terms
  bounds = good_bounds h s.landings g.header g.landings

  -- what follows is in the image
  next : (q : Point) → In q (walked ls p (flow_of terms c)) → Within terms q
  unfolding successors flow_at
  next q m = successors_within terms bounds bs p q (record { task = l; block = known.block; depth = known.depth }) (rw fault_free m)

  pub fit_here : Fit h.count c
  unfolding command_at
  fit_here = fit h (block_at bs own.block) (bytes_at image bytes own.block) (eqb-true _ 0 block_fits_lem.0)

  pub law : Law ls c.code c (context_of s own x) s.values e
  law = every_law x.levels ls (context_of s own x) c s.values (used_carried terms c.code t passed.allowed)

  tasks : GoodTasks h s.tasks
  tasks = record { three = g.three; task = g.task; first = g.first }

  kept_start : t ≡ bias → own.start ≡ h.start
  kept_start i = rw i g.first

  here : (own' : Task) → GoodTask h own' → own'.start ≡ own.start → GoodTasks h (set s.tasks t own')
  here own' d i = put_good h s.tasks t own' tasks l d (λ j. i ∙ kept_start j)

  goes_on : (b : ℕ) → b < h.count → GoodTasks h (set s.tasks t (go_to b own))
  goes_on b i = here (go_to b own) (go_good h own known b i) refl

  -- another task starts, or the own one does
  starts : (u a : ℕ) → Allows ls (flow_of terms c) (Start u a) → Dec (u ≡ t)
      → GoodTasks h (set (set s.tasks t (go_to (own.block + 1) own)) u (start_anew h.start u a))
  starts u a m (no n) =
      let w = next _ (start_in ls p (flow_of terms c) u a m) in
      put_good h (set s.tasks t (go_to (own.block + 1) own)) u (start_anew h.start u a)
      (goes_on (own.block + 1) (next _ (start_on ls p (flow_of terms c) u a m n)).block) w.task (start_good h u a w.block g.header.start)
      (λ i. rw i refl)
  starts u a m (yes i) =
      let w = next _ (start_in ls p (flow_of terms c) u a m) in
      rw (i, set_set s.tasks t (go_to (own.block + 1) own) (start_anew h.start t a))
      (put_good h s.tasks t (start_anew h.start t a) tasks l (start_good h t a w.block g.header.start) (λ j. rw j refl))

  turned : (o : Outcome) → Allows ls (flow_of terms c) o → Staying h.drive.model o → GoodTasks h (tasks_after h.start t own o s.tasks)
  turned GoOn m w = goes_on (own.block + 1) (next _ (on_in ls p (flow_of terms c) m)).block
  turned (Stay time turns) m w = here (stay_with time turns own) (stay_good h own known time turns w) refl
  turned (Jump a) m w = goes_on a (next _ (jump_in ls p (flow_of terms c) a m)).block
  turned (Call a) m w =
      let d = leb-false most_depth own.depth (sym (call_deep ls p (flow_of terms c) a m) ∙ passed.shallow) in
      here (call_to a own) (call_good h own known a (next _ (call_in ls p (flow_of terms c) a m)).block (next _ (behind_in ls p (flow_of terms c) a m)).block
      d)
      refl
  turned Return m w =
      here (return_from own) (return_good h own known (eqb-false own.depth 0 (sym (return_deep ls p (flow_of terms c) m) ∙ passed.called))) refl
  turned (Start u a) m w = starts u a m (ℕ_discrete u t)
  turned Restart m w = here (restarted own) (restart_good h own known) refl
  turned End m w = here (stopped ended own) (stop_good h own known ended (omega arith)) refl
  turned (Halt q) m w = here (stopped halted own) (stop_good h own known halted (omega arith)) refl

  pub performed_good : GoodState (performed s x own e).state
  unfolding performed flow_of
  performed_good =
      let d = turned e.outcome law.outcome.flow (law.outcome.wait h.count fit_here known.wait) in
      record {
        header = g.header;
        landings = g.landings;
        values = noted_good t x.start e.outcome e.request e.values (law.values h.count fit_here g.values);
        three = d.three;
        task = d.task;
        first = d.first;
      }

-- ---- the step

either : (t : Bool) (a b : StepOut) → (t ≡ true → GoodState a.state) → GoodState b.state → GoodState (cond t a b).state
either true a b f g = f refl
either false a b f g = g

pub keeps_good : KeepsGood
unfolding step task_step
keeps_good image bytes s g x =
    either (ltb x.task task_count) _ _
    (λ i. either (eqb (length x.levels) inputs_length) _ _
    (λ _. either (eqb (task_at s x.task).status runs) _ _
    (λ j. either (fits image (terms_held s) x.task (task_at s x.task)) _ _
    (λ f. performed_good image bytes s g x (ltb-true _ _ i) (eqb-true _ _ j) f)
    (stays (Err (Differs (point_of x.task (task_at s x.task))))))
    (stays (Err NotRunning)))
    (stays (Err (BadInputs (length x.levels)))))
    (stays (Err (NoTask x.task)))
  where
    stays : (a : Answer) → GoodState (refuse s a).state
    stays a = subst GoodState (sym (refused_alike s a)) g

-- What `Demand` and `EveryStep` give when they are taken apart, in the numbers and buffers that C sees: one way more, or one thing less, in specs/Theorem.antt
-- and specs/Every.antt is noticed here, or in Loads.antt and Every.antt, where theorems go both ways.
use Rattle.std.specs.Prelude.{Ok, Err}
use Prim.Native.Nat.{ℕ, ◌<◌, ◌≤◌}
use native.Mathlib.Omega.{arith}
use mathlib.Core.Path.{◌≡◌, refl, sym, ap, ◌∙◌}
use mathlib.Core.Bool.{true, false}
use mathlib.Core.Logic.{◌↔◌, ◌⊎◌}
use mathlib.Core.List.{List, ◌∷◌}
use lib.ListN.{get_or}
use Rattle.limits.specs.Limits.{task_count, most_depth}
use Rattle.num_le.specs.LittleEndian.{Bytes}
use Rattle.logic.proofs.Choice.{clash}
use Rattle.image_header.specs.Scan.{blocks_of}
use Rattle.walk_point.specs.declared.Point.{Point}
use Rattle.image_result.specs.ImageResult.{done}
use Rattle.command_judge.specs.BlockFault.{block_fault_number}
use Rattle.command_judge.proofs.Numbers.{refused_number}
use Rattle.walk_fault.specs.declared.Fault.{Fault}
use Rattle.walk.specs.Blocks.{fault_at}
use Rattle.walk_flow.specs.Terms.{terms_of}
use Rattle.walk.specs.Blocks.{fault_at}
use Rattle.walk.specs.IsVerdict.{BadAt, NoForeign, IsWalksVerdict, IsVerdict}
use Rattle.walk.specs.Verdict.{verdict_number}
use Rattle.walk.specs.Verdict.{Verdict}
use Rattle.walk.specs.declared.Refusal.TheVariants as verdict
use Rattle.walk.proofs.Points.Order.{block_first, then_task, then_depth}
use Rattle.state.specs.State.{runs, task_at}
use Rattle.state_layout.specs.Layout.{decoded, encoded}
use Rattle.state_layout.specs.IsState.{is_state}
use Rattle.machine.specs.Inputs.{Inputs}
use Rattle.machine.specs.Engine.{step, block_fits}
use Rattle.machine.specs.Numbers.{cause_number, answer_number}
use Rattle.machine.specs.Reference.{reference_loaded, idle}
use Rattle.machine.specs.Run.{machine_after}
use Rattle.machine.specs.Theorem.{loaded}
use Rattle.machine.specs.StepRule.{Past, no_past, past_after, StepRule}
use Rattle.machine.specs.declared.Cause.{Cause}
use Rattle.machine.specs.declared.Cause.TheVariants.{ZeroDivisor, BadContent, NoLanding}
use Rattle.machine.specs.Answers.{Answer}
use Rattle.machine.specs.declared.NotDone.TheVariants.{NoTask, Inputs as BadInputs, NotRunning, Differs, Halted}
use Rattle.machine.proofs.Runs.Apart.{thread_for, both_run, alike_is, permitted_fits}
use Rattle.bias_results.specs.Results.{verdict_for}
use Rattle.bias_results.specs.declared.BiasAnswer.{BiasAnswer}
use Rattle.bias_results.specs.declared.BiasVerdict.{BiasVerdict}
use Rattle.bias.specs.Load.{load}
use Rattle.bias.specs.Step.{stepped}
use Rattle.proved_demands.specs.Run.{answers, buffer_after, reference_answers}
use Rattle.proved_demands.specs.Every.{halted_state, Way, StepOf}
use Rattle.proved_demands.specs.Theorem.{refused, differs, StepOn, EveryStepOn, Run, Loads, WellFormed, SomeBad, SomeForeign, Demand}

-- ---- a step of a run, by the numbers that C sees

-- 19, 20 and 22 are no refusals
halt_number : (q : Cause) → 19 ≤ cause_number q
halt_number ZeroDivisor = omega arith
halt_number BadContent = omega arith
halt_number NoLanding = omega arith

-- 16 is no answer of a state's step, and 17 is the one that says that the image differs
not_17 : (a : Answer) → differs a ≡ false → 16 ≤ answer_number a → answer_number a ≤ 17 → ⊥
not_17 (Ok _) d l h = omega arith
not_17 (Err (NoTask t)) d l h = omega arith
not_17 (Err (BadInputs n)) d l h = omega arith
not_17 (Err NotRunning) d l h = omega arith
not_17 (Err (Differs p)) d l h = clash d
not_17 (Err (Halted q p)) d l h = let n = halt_number q in omega arith

-- 15 to 18 are refusals
is_refused : (a : Answer) → 15 ≤ answer_number a → answer_number a ≤ 18 → refused a ≡ true
is_refused (Ok _) l h = absurd (omega arith)
is_refused (Err (NoTask t)) l h = refl
is_refused (Err (BadInputs n)) l h = refl
is_refused (Err NotRunning) l h = refl
is_refused (Err (Differs p)) l h = refl
is_refused (Err (Halted q p)) l h = let n = halt_number q in absurd (omega arith)

module _ {image b : List ℕ} {past : Past} {x : Inputs} (e : StepOn image past b x) where
  number_is : (stepped image b x).answer.number ≡ answer_number (step image (decoded b) x).answer
  number_is = ap (λ (a : BiasAnswer). a.number) e.answer

  -- no step of a run is refused by 16 or 17
  pub never_16_17 : 16 ≤ (stepped image b x).answer.number → (stepped image b x).answer.number ≤ 17 → ⊥
  never_16_17 l h = let n = number_is in not_17 (step image (decoded b) x).answer e.same (omega arith) (omega arith)

  -- refused by 15 or 18 it leaves the buffer
  pub left : 15 ≤ (stepped image b x).answer.number → (stepped image b x).answer.number ≤ 18 → (stepped image b x).buffer ≡ b
  left l h = let n = number_is in e.stays (is_refused (step image (decoded b) x).answer (omega arith) (omega arith))

  -- parts 4 to 6 and 8 are of the buffer before the step, and of the one after it (machine/proofs/Runs/Apart.antt takes them apart)
  pub parts_of : (is_state b ≡ true) × (StepRule image past (decoded b) x × (decoded (stepped image b x).buffer ≡ (step image (decoded b) x).state))
  parts_of = (e.held, (e.parts, e.state))

pub first_step_on : {image b : List ℕ} {past : Past} {x : Inputs} {xs : List Inputs} → EveryStepOn image past b (x ∷ xs)
    → StepOn image past b x × EveryStepOn image (past_after image (decoded b) x past) (stepped image b x).buffer xs
first_step_on (EveryStepOn.more p q) = (p, q)

-- ---- any step, of whatever bytes: carried out, refused with no motion and the buffer as it was, or halted

pub data Comes (image b : List ℕ) (x : Inputs) : Type 0 where
  carried_out : (stepped image b x).answer.number ≡ 0 → Comes image b x
  turned_away : 15 ≤ (stepped image b x).answer.number → (stepped image b x).answer.number ≤ 18 → (stepped image b x).answer.motion ≡ 0
      → (stepped image b x).buffer ≡ b → Comes image b x
  halted : 19 ≤ (stepped image b x).answer.number → (stepped image b x).answer.motion ≡ 0
      → (stepped image b x).buffer ≡ encoded (halted_state (decoded b) x) → Comes image b x

module _ {image b : List ℕ} {x : Inputs} where
  -- a refusal by 15 to 18
  turned : (a : BiasAnswer) → 15 ≤ a.number → a.number ≤ 18 → a.motion ≡ 0 → a ≡ (stepped image b x).answer → b ≡ (stepped image b x).buffer → Comes image b x
  turned a l h m e f =
      let n = ap (λ (r : BiasAnswer). r.number) e in
      Comes.turned_away (omega arith) (omega arith) (sym (ap (λ (r : BiasAnswer). r.motion) e) ∙ m) (sym f)

  by_way : (a : BiasAnswer) (after : List ℕ) → Way image b x a after → a ≡ (stepped image b x).answer → after ≡ (stepped image b x).buffer → Comes image b x
  by_way a after (Way.no_task l) e f = turned a (omega arith) (omega arith) refl e f
  by_way a after (Way.bad_inputs l n) e f = turned a (omega arith) (omega arith) refl e f
  by_way a after (Way.no_state q is) e f = turned a (omega arith) (omega arith) refl e f
  by_way a after (Way.not_running h n) e f = turned a (omega arith) (omega arith) refl e f
  by_way a after (Way.differs h g) e f = turned a (omega arith) (omega arith) refl e f
  by_way a after (Way.done r n) e f = Comes.carried_out (sym (ap (λ (r : BiasAnswer). r.number) e))
  by_way a after (Way.halts r q h) e f =
      let n = ap (λ (r : BiasAnswer). r.number) e in
      let l = halt_number q in
      Comes.halted (omega arith) (sym (ap (λ (r : BiasAnswer). r.motion) e)) (sym f)

  pub comes_to : StepOf image b x → Comes image b x
  comes_to s = by_way _ _ ((s.way _ _).1 (refl, refl)) refl refl

  -- a buffer that is a state is one afterwards, however the step ended
  pub state_stays : StepOf image b x → is_state b ≡ true → is_state (stepped image b x).buffer ≡ true
  state_stays s = s.held

-- ---- the place that is named when walks refuse: a bad one, with its number, and the first that a reader of the listing comes to

abbrev pub Bad : List ℕ → Point → Type 0
Bad image = BadAt (terms_of image) (blocks_of image)

pub record Topmost (image : List ℕ) (v : BiasVerdict) : Type 0 where
  pub place : Point
  pub bad : Bad image place
  pub fault : Fault
  pub broken : fault_at (terms_of image) (blocks_of image) place ≡ Err fault
  pub named : v ≡ verdict_for (Err (verdict.Bad fault place))
  -- no bad place is in a block above it; in its block none is of an earlier task, and of its task none is less deep
  pub none_above : (q : Point) → Bad image q → place.block ≤ q.block
  pub none_earlier : (q : Point) → Bad image q → place.block ≡ q.block → place.task ≤ q.task
  pub none_shallower : (q : Point) → Bad image q → place.block ≡ q.block → place.task ≡ q.task → place.depth ≤ q.depth

-- ---- the whole, of an image of bytes and a load

module _ (d : Demand) (image : List ℕ) (n : ℕ) (b : List ℕ) where
  module _ (bytes : Bytes image) (z : (load image n b).verdict.number ≡ 0) (xs : List Inputs) where
    run : Run image (load image n b).buffer xs
    run = d.runs image n b bytes z xs

    -- 1
    pub answers_are : answers image (load image n b).buffer xs ≡ reference_answers image (reference_loaded image) xs
    answers_are = run.same

    -- 2
    pub states_are : ((decoded (buffer_after image (load image n b).buffer xs)).values ≡ (machine_after image (reference_loaded image) xs).values)
        × ((t : ℕ) → t < task_count → (task_at (decoded (buffer_after image (load image n b).buffer xs)) t).status ≡ runs
        → get_or (machine_after image (reference_loaded image) xs).threads t idle ≡ thread_for (task_at (decoded (buffer_after image (load image n b).buffer xs)) t))
    states_are = alike_is _ _ run.alike

    pub both_running : (t : ℕ) → t < task_count → (get_or (machine_after image (reference_loaded image) xs).threads t idle).runs ≡ true
        → (task_at (decoded (buffer_after image (load image n b).buffer xs)) t).status ≡ runs
    both_running t l r = both_run _ _ (run.alike.tasks t l) r

    -- 3
    pub block_fits_lem : (t : ℕ) → t < task_count → (task_at (decoded (buffer_after image (load image n b).buffer xs)) t).status ≡ runs
        → (block_fits (terms_of image) (blocks_of image) t (task_at (decoded (buffer_after image (load image n b).buffer xs)) t) ≡ true)
        × ((task_at (decoded (buffer_after image (load image n b).buffer xs)) t).depth ≤ most_depth)
    block_fits_lem t l r = let p = run.permitted t l r in (permitted_fits image t _ p, p.depth)

    -- 4 to 6 and 8
    pub steps_are : EveryStepOn image no_past (load image n b).buffer xs × (is_state (buffer_after image (load image n b).buffer xs) ≡ true)
    steps_are = (run.steps, run.held)

  -- 7: what a load answers is what 13, 16 and the image say, and nothing else is
  pub answer_only : (v : BiasVerdict) → Loads image n b v → v ≡ (load image n b).verdict
  answer_only v l = ((d.loads image n b).answer v).0 l

  pub answer_some : Loads image n b (load image n b).verdict
  answer_some = ((d.loads image n b).answer (load image n b).verdict).1 refl

  -- a load that is refused leaves the buffer, and one that is not leaves the fresh state
  pub load_leaves : (((load image n b).verdict.number ≡ 0 → ⊥) → (load image n b).buffer ≡ b)
      × ((load image n b).verdict.number ≡ 0 → (load image n b).buffer ≡ encoded (loaded image))
  load_leaves = ((d.loads image n b).refused, (d.loads image n b).accepted)

  pub refused_for : WellFormed image n b
      → (((load image n b).verdict.number ≡ 0 → ⊥) ↔ (SomeBad image ⊎ SomeForeign image))
      × (NoForeign (terms_of image) (blocks_of image) → ((load image n b).verdict.number ≡ 0 → ⊥) ↔ SomeBad image)
  refused_for w = (d.exactly.by_form image n b w, d.exactly.by_place image n b w)

  -- ---- the place that a refusal by 9 to 12 names

  module _ (w : WellFormed image n b) (own : NoForeign (terms_of image) (blocks_of image)) where
    judged_topmost : {v : Verdict} → IsVerdict image n v → (verdict_number v ≡ 0 → ⊥) → Topmost image (verdict_for v)
    judged_topmost (IsVerdict.marks short) r = absurd (let m = w.marks in omega arith)
    judged_topmost (IsVerdict.header room f e) r = clash (sym w.header ∙ ap done e)
    judged_topmost (IsVerdict.block room f c l all g e) r = absurd (refused_number g (sym (ap block_fault_number e) ∙ w.blocks c l))
    judged_topmost (IsVerdict.walks room f all v (IsWalksVerdict.accepted g h)) r = absurd (r refl)
    judged_topmost (IsVerdict.walks room f all v (IsWalksVerdict.foreign p g h)) r = absurd (own p g)
    judged_topmost (IsVerdict.walks room f all v (IsWalksVerdict.bad g p q least k e)) r =
        record {
          place = p;
          bad = q;
          fault = k;
          broken = e;
          named = refl;
          none_above = λ o k. block_first p o (least o k);
          none_earlier = λ o k. then_task p o (least o k);
          none_shallower = λ o k. then_depth p o (least o k);
        }

    loads_topmost : {v : BiasVerdict} → Loads image n b v → (v.number ≡ 0 → ⊥) → Topmost image v
    loads_topmost (Loads.marks short) r = absurd (let m = w.marks in omega arith)
    loads_topmost (Loads.buffer room wrong) r = absurd (wrong w.buffer)
    loads_topmost (Loads.judged room right v j) r = judged_topmost j r

    pub topmost : ((load image n b).verdict.number ≡ 0 → ⊥) → Topmost image (load image n b).verdict
    topmost = loads_topmost answer_some

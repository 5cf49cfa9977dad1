-- The theorem over every list of steps, of the functions that C calls: along a run the buffer is the bytes of the state that the engine's run on values
-- has come to (machine/proofs/Runs/EveryRun.antt), since a good state is read back from its bytes and a step keeps good states.
use Rattle.std.specs.Prelude.{Ok}
use Prim.Native.Nat.{ℕ, ◌<◌}
use mathlib.Core.Path.{◌≡◌, refl, sym, ap, ◌∙◌, subst}
use mathlib.Core.Bool.{true, false}
use mathlib.Core.List.{List, [], ◌∷◌}
use lib.Dec.{eqb, ltb}
use lib.ListN.{length, get_or}
use Rattle.limits.specs.Limits.{task_count, inputs_length}
use Rattle.num_le.specs.LittleEndian.{Bytes}
use Rattle.logic.proofs.Choice.{clash, either}
use Rattle.image_header.specs.Scan.{header_of, blocks_of}
use Rattle.command_table.specs.Rows.{row_of}
use Rattle.walk_point.specs.declared.Point.{Point}
use Rattle.walk.specs.Blocks.{command_at}
use Rattle.walk.specs.Verdict.{verdict_of}
use Rattle.state.specs.State.{runs, task_at}
use Rattle.state.specs.GoodState.{GoodState}
use Rattle.state.specs.declared.State.{State}
use Rattle.state_layout.specs.Layout.{decoded, encoded}
use Rattle.state_layout.specs.IsState.{is_state}
use Rattle.state_layout.proofs.RoundTrip.{decode_encode, good_state}
use Rattle.machine.specs.Inputs.{Inputs, level}
use Rattle.machine.specs.Engine.{context_of, fits, point_of, answer_to, performed, task_step, step, terms_held}
use Rattle.machine.specs.Effect.{effect_of}
use Rattle.machine.specs.Reference.{Thread, Machine, ReferenceOut, idle, reference_loaded, replies, does, lost, tries, acts, reference_step, landing_blocks}
use Rattle.machine.specs.Alike.{Alike}
use Rattle.machine.specs.Run.{outs, reference_outs, state_after, machine_after, SameHanded, Permitted}
use Rattle.machine.specs.StepRule.{Past, no_past, past_after, StepRule, EachStep}
use Rattle.machine.specs.Theorem.{loaded}
use Rattle.machine.specs.declared.StepOut.{StepOut}
use Rattle.machine.specs.declared.Effect.{Effect}
use Rattle.machine.specs.declared.Outcome.{Outcome}
use Rattle.machine.specs.declared.Outcome.TheVariants as outcome
use Rattle.machine.proofs.Steps.KeepsGood.{keeps_good}
use Rattle.machine.specs.Theorem as values
use Rattle.machine.proofs.Runs.EveryRun as machine
use Rattle.exec_step.proofs.StepCases as engine
use Rattle.bias_results.specs.Results.{answer_for}
use Rattle.bias.specs.Step.{Stepped, handed, stepped}
use Rattle.proved_demands.specs.Run.{answers, buffer_after, reference_answers}
use Rattle.proved_demands.specs.Theorem.{refused, differs, StepOn, EveryStepOn, Run, EveryRun}
use Rattle.proved_demands.proofs.Loads.{accepted_load, fresh_load}
use Rattle.bias.proofs.ByTest.{no_task_lem, bad_inputs_lem, of_buffer, of_state, asked}

-- ---- one step of the bytes of a good state

module _ (image : List ℕ) (s : State) (g : GoodState s) (x : Inputs) where
  -- it is the step of the state
  is_step : stepped image (encoded s) x ≡ handed (step image s x)
  unfolding handed
  is_step =
      asked image (encoded s) x
      (λ l. no_task_lem image (encoded s) x l ∙ ap handed (engine.no_task_lem image s x l))
      (λ l n. bad_inputs_lem image (encoded s) x l n ∙ ap handed (engine.bad_inputs_lem image s x l n))
      (λ l e. of_buffer image (encoded s) x l e ∙ of_state image (encoded s) x (good_state s g)
      ∙ ap (λ (r : State). handed (step image r x)) (decode_encode s g))

  buffer_is : (stepped image (encoded s) x).buffer ≡ encoded (step image s x).state
  unfolding handed
  buffer_is = ap (λ (m : Stepped). m.buffer) is_step

  answer_is : (stepped image (encoded s) x).answer ≡ answer_for (step image s x).request (step image s x).answer
  unfolding handed
  answer_is = ap (λ (m : Stepped). m.answer) is_step

-- a command that is carried out, or halts its task, is not refused
not_refused : (o : Outcome) (p : Point) → refused (answer_to o p) ≡ false
not_refused outcome.GoOn p = refl
not_refused (outcome.Stay time turns) p = refl
not_refused (outcome.Jump a) p = refl
not_refused (outcome.Call a) p = refl
not_refused outcome.Return p = refl
not_refused (outcome.Start u a) p = refl
not_refused outcome.Restart p = refl
not_refused outcome.End p = refl
not_refused (outcome.Halt n) p = refl

-- a step that is refused leaves the state, whatever the state
pub refused_stays : (image : List ℕ) (s : State) (x : Inputs) → refused (step image s x).answer ≡ true → (step image s x).state ≡ s
unfolding step task_step performed
refused_stays image s x =
    either Stays (ltb x.task task_count)
    (either Stays (eqb (length x.levels) inputs_length)
    (either Stays (eqb (task_at s x.task).status runs)
    (either Stays (fits image (terms_held s) x.task (task_at s x.task))
    (λ r. clash (sym r ∙ not_refused effect.outcome (point_of x.task (task_at s x.task)))) (λ r. refl))
    (λ r. refl))
    (λ r. refl))
    (λ r. refl)
  where
    Stays : StepOut → Type 0
    Stays o = refused o.answer ≡ true → o.state ≡ s

    effect : Effect
    effect = effect_of x.levels (terms_held s).landings (context_of s (task_at s x.task) x) (command_at (blocks_of image) (task_at s x.task).block) s.values

-- the reference machine never says that the image differs
reply_same : (o : Outcome) (t : ℕ) (thread : Thread) → differs (replies o t thread) ≡ false
reply_same outcome.GoOn t thread = refl
reply_same (outcome.Stay time turns) t thread = refl
reply_same (outcome.Jump a) t thread = refl
reply_same (outcome.Call a) t thread = refl
reply_same outcome.Return t thread = refl
reply_same (outcome.Start u a) t thread = refl
reply_same outcome.Restart t thread = refl
reply_same outcome.End t thread = refl
reply_same (outcome.Halt n) t thread = refl

turn_same : (image : List ℕ) (m : Machine) (x : Inputs) → differs (reference_step image m x).answer ≡ false
unfolding reference_step acts tries does
turn_same image m x =
    either Same (ltb 2 x.task) refl
    (either Same (eqb (length x.levels) 256)
    (either Same thread.runs
    (either Same (ltb thread.block (header_of image).header.count)
    (either Same (row_of (command_at (blocks_of image) thread.block).code).carried
    (either Same (lost effect.outcome thread.returns) refl (reply_same effect.outcome x.task thread)) refl)
    refl)
    refl)
    refl)
  where
    Same : ReferenceOut → Type 0
    Same d = differs d.answer ≡ false

    thread : Thread
    thread = get_or m.threads x.task idle

    effect : Effect
    effect =
        effect_of x.levels (landing_blocks image)
        (record {
          drive = (header_of image).header.drive;
          start = level x.start;
          ramp_ended = level x.ramp_ended;
          in_window = level x.in_window;
          time = thread.time;
          turns = thread.turns;
        })
        (command_at (blocks_of image) thread.block) m.values

-- ---- a list of steps

module _ (image : List ℕ) (bytes : Bytes image) where
  next_good : (s : State) → GoodState s → (x : Inputs) → GoodState (step image s x).state
  next_good s g x = keeps_good image bytes s g x

  -- the buffer is the bytes of the state
  after_is : (s : State) → GoodState s → (xs : List Inputs) → buffer_after image (encoded s) xs ≡ encoded (state_after image s xs)
  unfolding buffer_after state_after
  after_is s g [] = refl
  after_is s g (x ∷ xs) = ap (λ (b : List ℕ). buffer_after image b xs) (buffer_is image s g x) ∙ after_is (step image s x).state (next_good s g x) xs

  answers_are : (s : State) → GoodState s → (m : Machine) (xs : List Inputs) → SameHanded (outs image s xs) (reference_outs image m xs)
      → answers image (encoded s) xs ≡ reference_answers image m xs
  unfolding answers reference_answers outs reference_outs
  answers_are s g m [] h = refl
  answers_are s g m (x ∷ xs) (SameHanded.more a o h) =
      let e = answer_is image s g x ∙ (λ ι. answer_for (o ι) (a ι)) in
      let f = ap (λ (b : List ℕ). answers image b xs) (buffer_is image s g x)
      ∙ answers_are (step image s x).state (next_good s g x) (reference_step image m x).machine xs h in
      λ ι. e ι ∷ f ι

  step_on : (s : State) → GoodState s → (past : Past) (x : Inputs) → StepRule image past s x → differs (step image s x).answer ≡ false
      → StepOn image past (encoded s) x
  step_on s g past x p same =
      let d = decode_encode s g in
      record {
        held = good_state s g;
        parts = subst (λ (r : State). StepRule image past r x) (sym d) p;
        answer = answer_is image s g x ∙ ap (λ (r : State). answer_for (step image r x).request (step image r x).answer) (sym d);
        state = ap decoded (buffer_is image s g x) ∙ decode_encode (step image s x).state (next_good s g x)
            ∙ ap (λ (r : State). (step image r x).state) (sym d);
        same = ap (λ (r : State). differs (step image r x).answer) d ∙ same;
        stays = λ r. buffer_is image s g x ∙ ap encoded (refused_stays image s x (sym (ap (λ (r : State). refused (step image r x).answer) d) ∙ r));
      }

  each_on : (s : State) → GoodState s → (m : Machine) (past : Past) (xs : List Inputs) → EachStep image past s xs
      → SameHanded (outs image s xs) (reference_outs image m xs)
      → EveryStepOn image past (encoded s) xs
  unfolding outs reference_outs
  each_on s g m past [] h i = EveryStepOn.none
  each_on s g m past (x ∷ xs) (EachStep.more p h) (SameHanded.more a o i) =
      let later = each_on (step image s x).state (next_good s g x) (reference_step image m x).machine (past_after image s x past) xs h i in
      let first = subst (λ (b : List ℕ). EveryStepOn image (past_after image s x past) b xs) (sym (buffer_is image s g x)) later in
      EveryStepOn.more (step_on s g past x p (ap differs a ∙ turn_same image m x))
      (subst (λ (r : State). EveryStepOn image (past_after image r x past) (stepped image (encoded s) x).buffer xs) (sym (decode_encode s g)) first)

-- ---- from a load that answers 0

module _ (image : List ℕ) (n : ℕ) (bytes : Bytes image) (ok : verdict_of image n ≡ Ok tt) where
  -- the theorem on values
  of_values : (xs : List Inputs) → values.ValueRun image xs
  of_values xs = machine.every_value_run image n ok xs

  loaded_good : GoodState (loaded image)
  unfolding state_after
  loaded_good = (of_values []).good bytes

  from_fresh : (xs : List Inputs) → Run image (encoded (loaded image)) xs
  from_fresh xs =
      let s = state_after image (loaded image) xs in
      let r = of_values xs in
      let e = after_is image bytes (loaded image) loaded_good xs in
      let d = ap decoded e ∙ decode_encode s (r.good bytes) in
      record {
        same = answers_are image bytes (loaded image) loaded_good (reference_loaded image) xs r.answers;
        alike = subst (λ (q : State). Alike q (machine_after image (reference_loaded image) xs)) (sym d) r.alike;
        permitted = subst (λ (q : State). (t : ℕ) → t < task_count → (task_at q t).status ≡ runs → Permitted image t (task_at q t)) (sym d) r.permitted;
        steps = each_on image bytes (loaded image) loaded_good (reference_loaded image) no_past xs r.steps r.answers;
        held = ap is_state e ∙ good_state s (r.good bytes);
      }

pub every_run : EveryRun
every_run image n b bytes z xs =
    subst (λ (c : List ℕ). Run image c xs) (sym (fresh_load image n b z)) (from_fresh image n bytes (accepted_load image n b z) xs)

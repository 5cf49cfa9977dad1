-- Every step of bytes goes one of the ways of specs/Every.antt, by the tests that lead there, and what it answers and leaves is that way's: a command halts
-- exactly for its reason, and where it halts no wait was pending.
use Rattle.std.specs.Prelude.{None, Ok, Err}
use Prim.Native.Nat.{ℕ}
use native.Mathlib.Omega.{arith}
use mathlib.Core.Path.{◌≡◌, refl, sym, ap, ◌∙◌, subst}
use mathlib.Core.Bool.{Bool, true, false, ◌&&◌, ◌||◌, not}
use mathlib.Core.Logic.{◌⊎◌, inl, inr, ⊎_elim}
use mathlib.Core.List.{List}
use lib.Dec.{eqb}
use lib.ListN.{length, set}
use borrow.Author.Tests.{lt-ltb, eq-eqb, ne_eqb, eqb-true, eqb-false}
use Rattle.limits.specs.Limits.{task_count, inputs_length}
use Rattle.num_le.specs.LittleEndian.{Bytes}
use Rattle.logic.proofs.Choice.{clash, both}
use Rattle.image_header.specs.Scan.{blocks_of, header_of, landings_of}
use Rattle.command_operands.specs.declared.Command.{Command}
use Rattle.walk_point.specs.declared.Point.{Point}
use Rattle.state.specs.State.{runs, halted, task_with, task_at, with_notes}
use Rattle.state.specs.GoodState.{GoodState, GoodWait}
use Rattle.state.specs.declared.Task.{Task}
use Rattle.state.specs.declared.Values.{Values}
use Rattle.state.specs.declared.State.{State}
use Rattle.state_layout.specs.Layout.{decoded, encoded}
use Rattle.state_layout.specs.IsState.{is_state}
use Rattle.state_layout.proofs.RoundTrip.{state_good, encode_decode, good_state}
use Rattle.machine.specs.Inputs.{Inputs}
use Rattle.machine.specs.Effect.{effect_of, is_set}
use Rattle.machine.specs.Engine.{context_of, is_wait, is_loaded, is_halt, block_fits, wait_fits, fits, point_of, answer_to, notes_after, stopped, tasks_after}
use Rattle.machine.specs.Engine.{performed, carried_out, task_step, step, terms_held}
use Rattle.machine.specs.Engine as engine
use Rattle.machine.specs.StepRule.{command_of, Reason}
use Rattle.machine.specs.declared.Cause.{Cause}
use Rattle.machine.specs.Answers.{Answer}
use Rattle.machine.specs.declared.NotDone.TheVariants.{NotRunning, Differs, Halted}
use Rattle.machine.specs.declared.Effect.{Effect}
use Rattle.machine.specs.declared.Outcome.{Outcome}
use Rattle.machine.specs.declared.Outcome.TheVariants as outcome
use Rattle.machine.proofs.Rows.Forms.{Law, Halting}
use Rattle.machine.proofs.Rows.Halts.{halts_for}
use Rattle.machine.proofs.Steps.KeepsGood.{keeps_good, law, fit_here}
use Rattle.machine.proofs.Steps.Notes.{level_noted_lem}
use Rattle.bias_results.specs.Results.{answer_for}
use Rattle.bias_results.specs.declared.BiasAnswer.{BiasAnswer}
use Rattle.bias.specs.Step.{Stepped, handed, stepped}
use Rattle.proved_demands.specs.Every.{with_status, halted_state, Asked, Held, Running, Ready, ReasonHere, Way, EveryStep}
use Rattle.bias.proofs.ByTest.{no_task_lem, bad_inputs_lem, of_buffer, no_state_lem, of_state, asked}

-- ---- where a command halts, no wait is pending

-- a code that is no wait
not_waiting : (c : Command) (time code : ℕ) → (is_set time ≡ true → is_wait c.code ≡ true) → c.code ≡ code → is_wait code ≡ false → time ≡ 0
not_waiting c time code w e f = go (eqb time 0) refl
  where
    go : (t : Bool) → eqb time 0 ≡ t → time ≡ 0
    go true i = eqb-true time 0 i
    go false i = clash (sym (w (ap not i)) ∙ ap is_wait e ∙ f)

-- 8D and 31 to 33 are none, and a 5A halts only where none is pending
unpending : (ls : List ℕ) (c : Command) (v : Values) (time : ℕ) {q : Cause} → Reason ls c v time q → (is_set time ≡ true → is_wait c.code ≡ true) → time ≡ 0
unpending ls c v time (Reason.divisor e z) w = not_waiting c time 0x8D w e refl
unpending ls c v time (Reason.speed e z) w = not_waiting c time 0x31 w e refl
unpending ls c v time (Reason.acceleration e z) w = not_waiting c time 0x32 w e refl
unpending ls c v time (Reason.deceleration e z) w = not_waiting c time 0x33 w e refl
unpending ls c v time (Reason.waiting e t z) w = t
unpending ls c v time (Reason.jumping e n) w = not_waiting c time 0x56 w e refl
unpending ls c v time (Reason.starting e n) w = not_waiting c time 0x5B w e refl

-- then no turns are counted either
no_turns : (model time turns : ℕ) → GoodWait model time turns → time ≡ 0 → turns ≡ 0
no_turns model _ _ GoodWait.none e = refl
no_turns model _ _ (GoodWait.pending l m d) e = absurd (omega arith)

-- so that halting changes the status alone
status_alone : (task : Task) → task.time ≡ 0 → task.turns ≡ 0 → stopped halted task ≡ with_status halted task
status_alone task e f = λ ι. task_with halted task.block task.start task.depth task.stack (sym e ι) (sym f ι)

-- ---- an outcome is a halt, or is answered 0

halt_or_done : (o : Outcome) (p : Point) → ((q : Cause) × (o ≡ outcome.Halt q)) ⊎ ((answer_to o p ≡ Ok tt) × (is_halt o ≡ false))
halt_or_done outcome.GoOn p = inr (refl, refl)
halt_or_done (outcome.Stay time turns) p = inr (refl, refl)
halt_or_done (outcome.Jump a) p = inr (refl, refl)
halt_or_done (outcome.Call a) p = inr (refl, refl)
halt_or_done outcome.Return p = inr (refl, refl)
halt_or_done (outcome.Start u a) p = inr (refl, refl)
halt_or_done outcome.Restart p = inr (refl, refl)
halt_or_done outcome.End p = inr (refl, refl)
halt_or_done (outcome.Halt q) p = inl (q, refl)

-- ---- one step

module _ (image b : List ℕ) (x : Inputs) where
  -- what a step answers and leaves
  record Gives (a : BiasAnswer) (after : List ℕ) : Type 0 where
    answer : a ≡ (stepped image b x).answer
    buffer : after ≡ (stepped image b x).buffer

  given_by : (a : BiasAnswer) (after : List ℕ) → stepped image b x ≡ record { answer = a; buffer = after } → Gives a after
  given_by a after e = record { answer = ap (λ (m : Stepped). m.answer) (sym e); buffer = ap (λ (m : Stepped). m.buffer) (sym e) }

  module _ (bytes : Bytes image) (own : Bytes b) where
    abbrev s : State
    s = decoded b

    abbrev task : Task
    task = task_at s x.task

    good : is_state b ≡ true → GoodState s
    good is = state_good b own is

    to_task : Held b x → stepped image b x ≡ handed (task_step image s x task)
    unfolding step
    to_task h =
        of_buffer image b x h.asked.task h.asked.levels
        ∙ of_state image b x h.state
        ∙ ap handed (rw (lt-ltb x.task task_count h.asked.task, eq-eqb (length x.levels) inputs_length h.asked.levels))

    -- refused by 18 or 17: the state is put back as it was
    put_back : Held b x → (a : Answer) → task_step image s x task ≡ engine.refuse s a → Gives (answer_for None a) b
    unfolding handed
    put_back h a e =
        given_by (answer_for None a) b (to_task h ∙ ap handed e ∙ (λ ι. record { answer = answer_for None a; buffer = encode_decode b own h.state ι }))

    module _ (r : Ready image b x) where
      abbrev e : Effect
      e = effect_of x.levels (terms_held s).landings (context_of s task x) (command_of image s x) s.values

      performs : stepped image b x ≡ handed (performed s x task e)
      unfolding task_step
      performs = to_task r.runs.held ∙ ap handed (rw (eq-eqb task.status runs r.runs.running, r.fits))

      -- the command's number is 0 where it does not halt its task
      carried : answer_to e.outcome (point_of x.task task) ≡ Ok tt
          → Gives (answer_for (carried_out (blocks_of image) s x task).request (Ok tt)) (encoded (carried_out (blocks_of image) s x task).state)
      unfolding handed performed
      carried z = given_by _ _ (performs
          ∙ (λ ι. record { answer = answer_for e.request (z ι); buffer = encoded (carried_out (blocks_of image) s x task).state }))

      task_good : GoodState s
      task_good = good r.runs.held.state

      rule : Law (terms_held s).landings (command_of image s x).code (command_of image s x) (context_of s task x) s.values e
      rule = law image bytes s task_good x r.runs.held.asked.task r.runs.running r.fits

      reason_of : (q : Cause) → e.outcome ≡ outcome.Halt q → ReasonHere image b x q
      reason_of q i =
          let fitting = fit_here image bytes s task_good x r.runs.held.asked.task r.runs.running r.fits in
          subst (Halting (terms_held s).landings (command_of image s x) s.values task.time) i (rule.outcome.halt s.header.count fitting.ranges)

      -- 17 lets a pending wait stand at a wait alone
      wait_here : is_set task.time ≡ true → is_wait (command_of image s x).code ≡ true
      unfolding fits
      wait_here t =
          let here = both (is_loaded (header_of image) (landings_of image) (terms_held s)) (block_fits (terms_held s) (blocks_of image) x.task task && wait_fits (blocks_of image) task)
          r.fits in
          let waiting = (both (block_fits (terms_held s) (blocks_of image) x.task task) (wait_fits (blocks_of image) task) here.1).1 in
          sym (ap (λ (u : Bool). not u || is_wait (command_of image s x).code) t) ∙ waiting

      halting : (q : Cause) → e.outcome ≡ outcome.Halt q → Gives (answer_for None (Err (Halted q (point_of x.task task)))) (encoded (halted_state s x))
      unfolding handed performed
      halting q i =
          let still = rule.still (ap is_halt i) in
          let time = unpending (terms_held s).landings (command_of image s x) s.values task.time (reason_of q i) wait_here in
          let turns = no_turns s.header.drive.model task.time task.turns (task_good.task x.task r.runs.held.asked.task).wait time in
          given_by _ _ (performs
          ∙ (λ ι. record {
            answer = answer_for (still.1 ι) (answer_to (i ι) (point_of x.task task));
            buffer = encoded (record {
              values = with_notes (notes_after x.task x.start (i ι) (still.1 ι) (still.0 ι).notes) (still.0 ι);
              header = s.header;
              landings = s.landings;
              tasks =
                  tasks_after s.header.start x.task task (i ι) s.tasks;
            });
          })
          ∙ (λ ι. record {
            answer = answer_for None (Err (Halted q (point_of x.task task)));
            buffer = encoded (record {
              values = level_noted_lem x.task x.start q None s.values ι;
              header = s.header;
              landings = s.landings;
              tasks =
                  set s.tasks x.task (status_alone task time turns ι);
            });
          }))

      -- a command without a reason does not halt
      going : ((q : Cause) → ReasonHere image b x q → ⊥)
          → Gives (answer_for (carried_out (blocks_of image) s x task).request (Ok tt)) (encoded (carried_out (blocks_of image) s x task).state)
      going n = ⊎_elim (λ h. absurd (n h.0 (reason_of h.0 h.1))) (λ h. carried h.0) (halt_or_done e.outcome (point_of x.task task))

    -- ---- what a way says is what the step gives

    gives : (a : BiasAnswer) (after : List ℕ) → Way image b x a after → Gives a after
    unfolding task_step
    gives _ _ (Way.no_task l) = given_by _ _ (no_task_lem image b x l)
    gives _ _ (Way.bad_inputs l n) = given_by _ _ (bad_inputs_lem image b x l n)
    gives _ _ (Way.no_state q is) = given_by _ _ (of_buffer image b x q.task q.levels ∙ no_state_lem image b x is)
    gives _ _ (Way.not_running h n) = put_back h (Err NotRunning) (rw (ne_eqb task.status runs n))
    gives _ _ (Way.differs h f) = put_back h.held (Err (Differs (point_of x.task task))) (rw (eq-eqb task.status runs h.running, f))
    gives _ _ (Way.done r n) = going r n
    gives _ _ (Way.halts r q h) = halting r q (halts_for x.levels (terms_held s).landings (context_of s task x) (command_of image s x) s.values h)

    -- ---- a step goes some way

    goes : {a : BiasAnswer} {after : List ℕ} → Way image b x a after → Way image b x (stepped image b x).answer (stepped image b x).buffer
    goes {a} {after} w = let g = gives a after w in
        subst (λ (l : List ℕ). Way image b x (stepped image b x).answer l) g.buffer (subst (λ (r : BiasAnswer). Way image b x r after) g.answer w)

    abbrev SomeWay : Type 0
    SomeWay = Way image b x (stepped image b x).answer (stepped image b x).buffer

    -- a command that does not halt its task has no reason to
    executed_way : Ready image b x → SomeWay
    executed_way r =
        ⊎_elim (λ h. goes (Way.halts r h.0 (reason_of r h.0 h.1)))
        (λ h. goes (Way.done r (λ q w. clash (ap is_halt (sym (halts_for x.levels (terms_held s).landings (context_of s task x) (command_of image s x) s.values w)) ∙ h.1))))
        (halt_or_done (e r).outcome (point_of x.task task))

    running_way : Running b x → (t : Bool) → fits image (terms_held s) x.task task ≡ t → SomeWay
    running_way h true f = executed_way (record { runs = h; fits = f })
    running_way h false f = goes (Way.differs h f)

    held_way : Held b x → (t : Bool) → eqb task.status runs ≡ t → SomeWay
    held_way h true f = running_way (record { held = h; running = eqb-true _ _ f }) (fits image (terms_held s) x.task task) refl
    held_way h false f = goes (Way.not_running h (eqb-false _ _ f))

    asked_way : Asked x → (t : Bool) → is_state b ≡ t → SomeWay
    asked_way q true is = held_way (record { asked = q; state = is }) (eqb task.status runs) refl
    asked_way q false is = goes (Way.no_state q is)

    some_way : SomeWay
    some_way =
        asked image b x
        (λ l. goes (Way.no_task l))
        (λ l n. goes (Way.bad_inputs l n))
        (λ l g. asked_way (record { task = l; levels = g }) (is_state b) refl)

    -- ---- a state stays one

    held_after : is_state b ≡ true → is_state (stepped image b x).buffer ≡ true
    unfolding handed
    held_after is =
        asked image b x
        (λ l. ap (λ (m : Stepped). is_state m.buffer) (no_task_lem image b x l) ∙ is)
        (λ l n. ap (λ (m : Stepped). is_state m.buffer) (bad_inputs_lem image b x l n) ∙ is)
        (λ l g. ap (λ (m : Stepped). is_state m.buffer) (of_buffer image b x l g ∙ of_state image b x is)
        ∙ good_state (step image s x).state (keeps_good image bytes s (good is) x))

pub every_step : EveryStep
every_step image b bytes own x = record {
  way = λ a after. (
    λ w. let g = gives image b x bytes own a after w in (g.answer, g.buffer),
    λ e. rw (e.0, e.1) (some_way image b x bytes own),
  );
  held = held_after image b x bytes own;
}

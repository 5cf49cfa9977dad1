-- Parts 4 to 6, 8 and 9 of the theorem at one step of a run.
use Prim.Native.Nat.{ℕ, zero, suc, ◌+◌, ◌<◌}
use mathlib.Core.Path.{◌≡◌, refl, sym, ap, subst, ◌∙◌}
use mathlib.Core.Bool.{Bool, true, false, ◌&&◌, not, cond, and-false}
use mathlib.Core.Logic.{◌⊎◌, inl, inr, ⊎_elim}
use mathlib.Core.List.{List, [], ◌∷◌}
use native.Mathlib.Omega.{arith}
use native.Mathlib.Decide.{ℕ_discrete}
use lib.Dec.{eqb}
use lib.IntN.{ℤ}
use lib.ListN.{length, get_or, set, length-set}
use lib.Seq.{get_or-set_same, get_or-set_other}
use borrow.Author.Tests.{eqb-false, eq-eqb, ne_eqb}
use Rattle.logic.proofs.Lists.{at_set}
use Rattle.limits.specs.Limits.{bias, task_count}
use Rattle.logic.proofs.Choice.{clash}
use Rattle.command_table.specs.Rows.{row_of}
use Rattle.command_operands.specs.declared.Command.{Command}
use Rattle.walk_flow.specs.Flow.{flow_of}
use Rattle.walk_point.specs.PointFault.{no_call}
use Rattle.walk_point.specs.declared.Point.{Point}
use Rattle.walk_flow.specs.declared.Flow.{Flow}
use Rattle.walk_flow.specs.declared.Flow.TheVariants as flow
use Rattle.walk.specs.Blocks.{block_at, command_at}
use Rattle.walk.specs.Walk.{starts_anew}
use Rattle.walk.proofs.Steps.Moves.{Flows, carried}
use Rattle.state.specs.State.{runs, ended, halted, no_task, task_at, with_notes}
use Rattle.state.specs.declared.Task.{Task}
use Rattle.state.specs.declared.Values.{Values}
use Rattle.state.specs.declared.State.{State}
use Rattle.machine.specs.Inputs.{Inputs, level}
use Rattle.machine.specs.Effect.{bit, is_set, arrived, natural, is_landing}
use Rattle.machine.specs.Engine.{go_to, call_to, return_from, stay_with, restarted, start_anew, tasks_after, point_of, context_of, notes_after, answer_to}
use Rattle.machine.specs.Engine.{performed, step, stopped, terms_held}
use Rattle.machine.specs.declared.StepOut.{StepOut}
use Rattle.machine.specs.Reference.{Thread, Machine, ReferenceOut, idle, goes_to, back, anew, follows, does, reference_step}
use Rattle.machine.specs.StepRule.{Calls, with_calls, without_latest, calls_after, executed, command_of, Behind, Stopped}
use Rattle.machine.specs.StepRule.{moved_last, wait_over, LandsAt, Anew, content_of, Past, past_after, StepRule}
use Rattle.machine.specs.Allows.{Allows}
use Rattle.machine.specs.declared.Cause.{Cause}
use Rattle.machine.specs.declared.Cause.TheVariants.{NoLanding}
use Rattle.machine.specs.declared.Outcome.{Outcome}
use Rattle.machine.specs.declared.Outcome.TheVariants.{GoOn, Stay, Jump, Call, Return, Start, Restart, End, Halt}
use Rattle.machine.proofs.Rows.Forms.{Halting, Ranged, landing_is}
use Rattle.machine.proofs.Rows.Landings.{jump_outcome, start_outcome}
use Rattle.machine.proofs.Rows.Operands.{in_ranges}
use Rattle.state.proofs.Setters.{kept_set}
use Rattle.machine.proofs.Runs.Accepted.{Accepted, hd, body, within}
use Rattle.machine.proofs.Steps.Alike.{returns_return}
use Rattle.machine.proofs.Rows.Codes.{count_f, counts_flow, return_flow, start_code, end_code}
use Rattle.machine.proofs.Rows.Slope.{move_is, position_outcome}
use Rattle.machine.proofs.Steps.Notes.{level_noted_lem, notes_left, moved_told, bit_clear}
use Rattle.machine.proofs.Steps.Together.{Agree, Ran, Case, effect_here, thread_of, used_carried, step_case}

-- ---- open calls and the reference machine's return blocks

-- the blocks behind calls
abbrev pub behinds : List ℕ → List ℕ
behinds [] = []
behinds (b ∷ bs) = (b + 1) ∷ behinds bs

-- each task's open calls are what its list of returns says
abbrev pub Counts : Calls → List Thread → Type 0
Counts calls l = (u : ℕ) → behinds (calls u) ≡ (get_or l u idle).returns

latest_is : (l : List ℕ) (b : ℕ) (rest : List ℕ) → behinds l ≡ b ∷ rest → Behind l b
latest_is [] b rest e = let n = ap length e in absurd (omega arith)
latest_is (a ∷ l) b rest e = subst (Behind (a ∷ l)) (ap (λ (xs : List ℕ). get_or xs 0 0) e) Behind.latest

-- a task with other calls and other returns
with_count : (calls : Calls) (l : List Thread) (t : ℕ) (q : Thread) (c : List ℕ) → t < length l → Counts calls l → behinds c ≡ q.returns
    → Counts (with_calls t c calls) (set l t q)
with_count calls l t q c i n e u = go (ℕ_discrete u t)
  where
    go : Dec (u ≡ t) → behinds (with_calls t c calls u) ≡ (get_or (set l t q) u idle).returns
    go (yes j) = rw (j, get_or-set_same l t q idle i, eq-eqb t t refl) e
    go (no j) = rw (get_or-set_other l t u q idle j, ne_eqb u t j) (n u)

-- a task that begins anew, without any
empty_count : (calls : Calls) (l : List Thread) (t : ℕ) (q : Thread) → Counts calls l → q.returns ≡ [] → Counts (with_calls t [] calls) (set l t q)
empty_count calls l t q n e u = go (ℕ_discrete u t)
  where
    cleared : (l : List Thread) (t : ℕ) → (get_or (set l t q) t idle).returns ≡ []
    cleared [] t = refl
    cleared (k ∷ l) zero = e
    cleared (k ∷ l) (suc t) = cleared l t

    go : Dec (u ≡ t) → behinds (with_calls t [] calls u) ≡ (get_or (set l t q) u idle).returns
    go (yes j) = rw (j, eq-eqb t t refl, cleared l t) refl
    go (no j) = rw (get_or-set_other l t u q idle j, ne_eqb u t j) (n u)

-- a task whose returns stay
same_count : (calls : Calls) (l : List Thread) (t : ℕ) (q : Thread) → t < length l → Counts calls l → q.returns ≡ (get_or l t idle).returns
    → Counts calls (set l t q)
same_count calls l t q i n e = at_set idle (λ u k. behinds (calls u) ≡ k.returns) l t q i (n t ∙ sym e) (λ u _. n u)

back_count : (c : List ℕ) (p : Thread) → behinds c ≡ p.returns → behinds (without_latest c) ≡ (back p p.returns).returns
back_count c p e = subst (λ (r : List ℕ). behinds (without_latest c) ≡ (back p r).returns) e (go c e)
  where
    go : (c : List ℕ) → behinds c ≡ p.returns → behinds (without_latest c) ≡ (back p (behinds c)).returns
    go [] e = e
    go (b ∷ bs) e = refl

-- a command that is executed counts calls as the reference machine follows its outcome; one that halts its task counts none
follows_count : (ls : List ℕ) (calls : Calls) (l : List Thread) (t b : ℕ) (p : Point) → t < length l → b ≡ (get_or l t idle).block → Counts calls l
    → (f : Flow) (o : Outcome) → Allows ls f o
    → Counts (cond (executed (answer_to o p)) (count_f f t b calls) calls) (follows t (get_or l t idle) o l)
unfolding follows
follows_count ls calls l t b p i e n _ _ Allows.on = same_count calls l t _ i n refl
follows_count ls calls l t b p i e n _ _ Allows.halt = same_count calls l t _ i n refl
follows_count ls calls l t b p i e n _ _ Allows.over = same_count calls l t _ i n refl
follows_count ls calls l t b p i e n _ _ Allows.stay = same_count calls l t _ i n refl
follows_count ls calls l t b p i e n _ _ Allows.refuse = same_count calls l t _ i n refl
follows_count ls calls l t b p i e n _ _ Allows.jump = same_count calls l t _ i n refl
follows_count ls calls l t b p i e n _ _ Allows.branch = same_count calls l t _ i n refl
follows_count ls calls l t b p i e n _ _ Allows.pass = same_count calls l t _ i n refl
follows_count ls calls l t b p i e n _ _ Allows.call = with_count calls l t _ (b ∷ calls t) i n (rw (e, n t) refl)
follows_count ls calls l t b p i e n _ _ Allows.return = with_count calls l t _ (without_latest (calls t)) i n (back_count (calls t) (get_or l t idle) (n t))
follows_count ls calls l t b p i e n _ (Start u a) Allows.start =
    empty_count calls (set l t (goes_to ((get_or l t idle).block + 1) (get_or l t idle))) u (anew u a l) (same_count calls l t _ i n refl) refl
follows_count ls calls l t b p i e n _ _ Allows.restart = empty_count calls l t _ n refl
follows_count ls calls l t b p i e n _ _ Allows.end = same_count calls l t _ i n refl
follows_count ls calls l t b p i e n _ _ (Allows.land m) = same_count calls l t _ i n refl
follows_count ls calls l t b p i e n _ _ Allows.astray = same_count calls l t _ i n refl
follows_count ls calls l t b p i e n _ (Start u a) (Allows.begin m) =
    empty_count calls (set l t (goes_to ((get_or l t idle).block + 1) (get_or l t idle))) u (anew u a l) (same_count calls l t _ i n refl) refl
follows_count ls calls l t b p i e n _ _ Allows.unbegun = same_count calls l t _ i n refl

-- ---- tasks after an outcome

-- another task stays, or the outcome starts it
other_task : (first t : ℕ) (task : Task) (o : Outcome) (l : List Task) (u : ℕ) → (u ≡ t → ⊥)
    → (get_or (tasks_after first t task o l) u no_task ≡ get_or l u no_task) ⊎ ((a : ℕ) × (o ≡ Start u a))
other_task first t task GoOn l u n = inl (get_or-set_other l t u _ no_task n)
other_task first t task (Stay time turns) l u n = inl (get_or-set_other l t u _ no_task n)
other_task first t task (Jump a) l u n = inl (get_or-set_other l t u _ no_task n)
other_task first t task (Call a) l u n = inl (get_or-set_other l t u _ no_task n)
other_task first t task Return l u n = inl (get_or-set_other l t u _ no_task n)
other_task first t task (Start w a) l u n = go (ℕ_discrete u w)
  where
    go : Dec (u ≡ w) → (get_or (tasks_after first t task (Start w a) l) u no_task ≡ get_or l u no_task) ⊎ ((a' : ℕ) × (Start w a ≡ Start u a'))
    go (yes e) = inr (a, rw e refl)
    go (no d) = inl (get_or-set_other (set l t (go_to (task.block + 1) task)) w u _ no_task d ∙ get_or-set_other l t u _ no_task n)
other_task first t task Restart l u n = inl (get_or-set_other l t u _ no_task n)
other_task first t task End l u n = inl (get_or-set_other l t u _ no_task n)
other_task first t task (Halt q) l u n = inl (get_or-set_other l t u _ no_task n)

-- the step's own task runs on, ends or halts
own_task : (first t : ℕ) (task : Task) (o : Outcome) (l : List Task) → t < length l → task.status ≡ runs
    → ((get_or (tasks_after first t task o l) t no_task).status ≡ runs → ⊥)
    → (o ≡ End) ⊎ ((q : Cause) × (o ≡ Halt q))
own_task first t task GoOn l i r s = absurd (s (rw (get_or-set_same l t (go_to (task.block + 1) task) no_task i) refl))
own_task first t task (Stay time turns) l i r s = absurd (s (rw (get_or-set_same l t (stay_with time turns task) no_task i) refl))
own_task first t task (Jump a) l i r s = absurd (s (rw (get_or-set_same l t (go_to a task) no_task i) refl))
own_task first t task (Call a) l i r s = absurd (s (rw (get_or-set_same l t (call_to a task) no_task i) refl))
own_task first t task Return l i r s = absurd (s (rw (get_or-set_same l t (return_from task) no_task i) refl))
own_task first t task (Start w a) l i r s =
    absurd (s (kept_set (λ x. x.status ≡ runs) (set l t (go_to (task.block + 1) task)) w (start_anew first w a) no_task refl t
    (rw (get_or-set_same l t (go_to (task.block + 1) task) no_task i) refl)))
own_task first t task Restart l i r s = absurd (s (rw (get_or-set_same l t (restarted task) no_task i) refl))
own_task first t task End l i r s = inl refl
own_task first t task (Halt q) l i r s = inr (q, refl)

-- ---- the step

return_only : (ls : List ℕ) (o : Outcome) → Allows ls flow.Return o → o ≡ Return
return_only ls _ Allows.return = refl

-- what is told of the steps before is what the states hold: the open calls and the note of a move
pub record Told (past : Past) (s : State) (m : Machine) : Type 0 where
  pub calls : Counts past.calls m.threads
  pub moved : s.values.notes.moved ≡ bit past.moved

-- a byte as a level is set where the byte is not 0
level_set : (byte : ℕ) → is_set (level byte) ≡ is_set byte
level_set byte = go (eqb byte 0)
  where
    go : (b : Bool) → not (eqb (cond b 0 1) 0) ≡ not b
    go true = refl
    go false = refl

module _ (image : List ℕ) (ok : Accepted image) (s : State) (m : Machine) (g : Agree image s m) (past : Past) (told : Told past s m) (x : Inputs)
  where
    abbrev calls : Calls
    calls = past.calls

    n : Counts calls m.threads
    n = told.calls

    abbrev t : ℕ
    t = x.task

    abbrev task : Task
    task = task_at s t

    abbrev c : Command
    c = command_of image s x

    abbrev ls : List ℕ
    ls = (terms_held s).landings

    abbrev z : ℤ
    z = content_of image s x

    abbrev o : Outcome
    o = (effect_here image s x).outcome

    abbrev b : ℕ
    b = task.block

    module _ (r : Ran image s m x) where
      flows : Flows c.code (row_of c.code).flow
      flows = carried (hd image) c.code t r.passes.allowed

      in_flow : Allows (ls) (flow_of (hd image) c) o
      unfolding flow_of
      in_flow = r.law.outcome.flow

      -- there are three tasks
      present : t < length s.tasks
      present = let e = g.both.three in let l = r.task in omega arith

      tasks_are : (step image s x).state.tasks ≡ tasks_after s.header.start t task o s.tasks
      unfolding performed
      tasks_are = ap (λ (q : StepOut). q.state.tasks) r.engine

      answer_is : (step image s x).answer ≡ answer_to o (point_of t task)
      unfolding performed
      answer_is = ap (λ (q : StepOut). q.answer) r.engine

      values_are : (step image s x).state.values
          ≡ with_notes (notes_after t x.start o (effect_here image s x).request (effect_here image s x).values.notes) (effect_here image s x).values
      unfolding performed
      values_are = ap (λ (q : StepOut). q.state.values) r.engine

      request_is : (step image s x).request ≡ (effect_here image s x).request
      unfolding performed
      request_is = ap (λ (q : StepOut). q.request) r.engine

      threads_are : (reference_step image m x).machine.threads ≡ follows t (thread_of image m x) o m.threads
      unfolding does
      threads_are = ap (λ (q : ReferenceOut). q.machine.threads) r.reference

      calls_are : calls_after image s x calls ≡ cond (executed (answer_to o (point_of t task))) (count_f (flow_of (hd image) c) t b calls) calls
      unfolding calls_after
      calls_are = rw (answer_is, counts_flow (hd image) c flows t b calls)

      counted : Counts (calls_after image s x calls) (reference_step image m x).machine.threads
      counted =
          let e = g.both.also in
          let l = r.task in
          rw (calls_are, threads_are) (follows_count (ls) calls m.threads t b (point_of t task) (omega arith) ((g.both.same t r.task).block r.running) n
          (flow_of (hd image) c)
          o in_flow)

      part4 : c.code ≡ 0x53 → Behind (calls t) (task_at (step image s x).state t).block
      part4 e =
          let f = return_flow (hd image) c flows e in
          let i = return_only (ls) o (subst (λ (q : Flow). Allows (ls) q o) f in_flow) in
          let z : eqb task.depth 0 ≡ false = subst (λ (q : Flow). no_call q task.depth ≡ false) f r.passes.called in
          rw (tasks_are, i, get_or-set_same s.tasks t (return_from task) no_task present)
          (latest_is (calls t) _ _ (n t ∙ sym ((g.both.same t r.task).returns r.running)
          ∙ returns_return task.stack task.depth (eqb-false task.depth 0 z)))

      part6 : (u : ℕ) → (u ≡ t → ⊥)
          → (task_at (step image s x).state u ≡ task_at s u) ⊎ ((executed (step image s x).answer ≡ true) × (starts_anew c.code u ≡ true))
      part6 u d =
          ⊎_elim (λ e. inl (rw tasks_are e))
          (λ i. inr (rw (answer_is, i.1) refl, start_code (hd image) c flows (ls) u i.0 (subst (Allows (ls) (flow_of (hd image) c)) i.1 in_flow)))
          (other_task s.header.start t task o s.tasks u d)

      ranged : Ranged (hd image).header.count c
      unfolding command_at
      ranged = in_ranges (hd image).header (block_at (body image) b)
          (ok.blocks b (within image ok (point_of t task) ((g.both.sound t r.task).reach r.running)).block)

      -- the step's own task, where one record was put in its place
      stays_put : (task' : Task) → tasks_after s.header.start t task o s.tasks ≡ set s.tasks t task' → task_at (step image s x).state t ≡ task'
      stays_put task' e = ap (λ (ts : List Task). get_or ts t no_task) (tasks_are ∙ e) ∙ get_or-set_same s.tasks t task' no_task present

      header_is : (step image s x).state.header ≡ s.header
      unfolding performed
      header_is = ap (λ (q : StepOut). q.state.header) r.engine

      landings_are : (step image s x).state.landings ≡ s.landings
      unfolding performed
      landings_are = ap (λ (q : StepOut). q.state.landings) r.engine

      stopped_by : (o ≡ End) ⊎ ((j : Cause) × (o ≡ Halt j)) → Stopped image s x
      stopped_by (inl e) =
          let q = end_code (hd image) c flows (ls) t r.passes.own (subst (Allows (ls) (flow_of (hd image) c)) e in_flow) in
          Stopped.by_itself q.0 q.1 (answer_is ∙ rw e refl) (stays_put (stopped ended task) (rw e refl))
      stopped_by (inr (j, e)) =
          let q = r.law.still (rw e refl) in
          Stopped.by_refusal j (subst (Halting (ls) c s.values task.time) e (r.law.outcome.halt (hd image).header.count ranged)) (answer_is ∙ rw e refl)
          (values_are ∙ rw (e, q.0) (level_noted_lem t x.start j (effect_here image s x).request s.values)) (stays_put (stopped halted task) (rw e refl))
          (request_is ∙ q.1)

      -- another task's step
      notes_are : (t ≡ bias → ⊥) → (step image s x).state.values.notes ≡ s.values.notes
      notes_are d = ap (λ (v : Values). v.notes) values_are ∙ notes_left t x.start o (effect_here image s x).request _ d ∙ r.law.notes

      -- the note of a move tells of this step, or of those before
      moved_is : (step image s x).state.values.notes.moved ≡ bit (moved_last image s x past.moved)
      moved_is =
          ap (λ (v : Values). v.notes.moved) values_are
          ∙ moved_told t x.start (effect_here image s x) s.values (point_of t task) past.moved r.law.notes told.moved
          ∙ rw (answer_is, request_is, ← move_is x.levels (ls) (context_of s task x) c s.values (used_carried (hd image) c.code t r.passes.allowed)) refl

      part8 : c.code ≡ 0x58 → (task_at (step image s x).state t).block ≡ cond (wait_over x past.moved) (b + 1) b
      part8 i = go (wait_over x past.moved) (position_outcome x.levels (ls) (context_of s task x) c s.values i ∙ rw over refl)
        where
          over : arrived (context_of s task x) s.values.notes ≡ wait_over x past.moved
          over =
              let unmoved = ap (λ (k : ℕ). eqb k 0) told.moved ∙ bit_clear past.moved in
              λ ι. level_set x.ramp_ended ι && (level_set x.in_window ι && unmoved ι)

          go : (q : Bool) → o ≡ cond q GoOn (Stay 0 0) → (task_at (step image s x).state t).block ≡ cond q (b + 1) b
          go true e = ap (λ (k : Task). k.block) (stays_put (go_to (b + 1) task) (rw e refl))
          go false e = ap (λ (k : Task). k.block) (stays_put (stay_with 0 0 task) (rw e refl))

      -- a command that lands is executed where its variable holds a landing block
      landed : (k : ℕ → Outcome) → o ≡ cond (is_landing ls z) (k (natural z)) (Halt NoLanding) → executed (step image s x).answer ≡ true
          → (o ≡ k (natural z)) × LandsAt ls z (natural z)
      landed k e a = go (is_landing ls z) refl e
        where
          go : (q : Bool) → is_landing ls z ≡ q → o ≡ cond q (k (natural z)) (Halt NoLanding) → (o ≡ k (natural z)) × LandsAt ls z (natural z)
          go true i e = let l = landing_is ls z i in (e, record { listed = l.0; holds = l.1 })
          go false i e = clash (sym a ∙ ap executed answer_is ∙ ap (λ (q : Outcome). executed (answer_to q (point_of t task))) e)

      jumped : executed (step image s x).answer ≡ true → c.code ≡ 0x56 → LandsAt ls z (task_at (step image s x).state t).block
      jumped a i =
          let k = landed Jump (jump_outcome x.levels ls (context_of s task x) c s.values i) a in
          rw (ap (λ (q : Task). q.block) (stays_put (go_to (natural z) task) (rw k.0 refl))) k.1

      begun : executed (step image s x).answer ≡ true → c.code ≡ 0x5B
          → LandsAt ls z (task_at (step image s x).state bias).block
          × Anew s.header.start (task_at (step image s x).state bias).block (task_at (step image s x).state bias)
      begun a i =
          let k = landed (Start bias) (start_outcome x.levels ls (context_of s task x) c s.values i) a in
          let e : task_at (step image s x).state bias ≡ start_anew s.header.start bias (natural z) =
          ap (λ (ts : List Task). get_or ts bias no_task) (tasks_are ∙ ap (λ (q : Outcome). tasks_after s.header.start t task q s.tasks) k.0)
          ∙ get_or-set_same (set s.tasks t (go_to (task.block + 1) task)) bias (start_anew s.header.start bias (natural z)) no_task first_there in
          rw e (k.1, record { running = refl; at = refl; outside = refl; time = refl; turns = refl; start = refl })
        where
          first_there : bias < length (set s.tasks t (go_to (task.block + 1) task))
          first_there = let e = length-set s.tasks t (go_to (task.block + 1) task) in let f = g.both.three in omega arith

      part5 : (u : ℕ) → u < task_count → (task_at s u).status ≡ runs → ((task_at (step image s x).state u).status ≡ runs → ⊥) → (u ≡ t) × Stopped image s x
      part5 u l a z = go (ℕ_discrete u t)
        where
          among : (u : ℕ) → u < task_count → u < length (set s.tasks t (go_to (task.block + 1) task))
          among u l = let e = length-set s.tasks t (go_to (task.block + 1) task) in let f = g.both.three in omega arith

          stayed : (u ≡ t → ⊥) → (task_at (step image s x).state u).status ≡ runs
          stayed d =
              subst (λ (q : Task). q.status ≡ runs) (sym (ap (λ (ts : List Task). get_or ts u no_task) tasks_are))
              (⊎_elim (λ e. subst (λ (q : Task). q.status ≡ runs) (sym e) a)
              (λ i. rw (i.1, get_or-set_same (set s.tasks t (go_to (task.block + 1) task)) u (start_anew s.header.start u i.0) no_task (among u l)) refl)
              (other_task s.header.start t task o s.tasks u d))

          go : Dec (u ≡ t) → (u ≡ t) × Stopped image s x
          go (yes e) = (
            e,
            stopped_by (own_task s.header.start t task o s.tasks present r.running
                (λ i. z (subst (λ (w : ℕ). (task_at (step image s x).state w).status ≡ runs) (sym e) (rw tasks_are i)))),
          )
          go (no d) = absurd (z (stayed d))

    pub step_parts : StepRule image past s x × Told (past_after image s x past) (step image s x).state (reference_step image m x).machine
    unfolding past_after calls_after
    step_parts = go (step_case image ok s m g x)
      where
        go : Case image s m x → StepRule image past s x × Told (past_after image s x past) (step image s x).state (reference_step image m x).machine
        go (Case.refused a f i j) = (
          record {
            returns = λ e _. clash (sym e ∙ ap (λ (q : StepOut). executed q.answer) i ∙ f);
            stops = λ u _ e d. absurd (d (rw i e));
            others = λ u _ _. inl (rw i refl);
            notes = λ _. ap (λ (q : StepOut). q.state.values.notes) i;
            header = ap (λ (q : StepOut). q.state.header) i;
            landings = ap (λ (q : StepOut). q.state.landings) i;
            arrives = λ e _. clash (sym e ∙ ap (λ (q : StepOut). executed q.answer) i ∙ f);
            jumps = λ e _. clash (sym e ∙ ap (λ (q : StepOut). executed q.answer) i ∙ f);
            begins = λ e _. clash (sym e ∙ ap (λ (q : StepOut). executed q.answer) i ∙ f);
          },
          record { calls = rw (i, j, f) n; moved = rw (i, f, and-false (eqb t bias)) told.moved },
        )
        go (Case.ran r) = (
          record {
            returns = λ _ e. part4 r e;
            stops = part5 r;
            others = λ u _ d. part6 r u d;
            notes = notes_are r;
            header = header_is r;
            landings = landings_are r;
            arrives = λ _ e. part8 r e;
            jumps = jumped r;
            begins = begun r;
          },
          record { calls = counted r; moved = moved_is r },
        )

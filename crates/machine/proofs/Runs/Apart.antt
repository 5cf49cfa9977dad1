-- What the statements of specs/StepRule.antt, Alike.antt and Run.antt give when they are taken apart: one way more, or one thing less, in any of them is
-- noticed here, or, of a reason to halt, in Halts.antt.
use Rattle.std.specs.Prelude.{None, Ok, Err}
use Prim.Native.Nat.{ℕ, ◌+◌, ◌<◌, ◌≤◌}
use mathlib.Core.Path.{◌≡◌, refl, sym, ap, ◌∙◌}
use mathlib.Core.Bool.{Bool, true, false, ◌&&◌, cond, and-false}
use mathlib.Core.Logic.{◌⊎◌, inl, inr, ⊎_elim}
use mathlib.Core.List.{List, [], ◌∷◌, map}
use native.Mathlib.Omega.{arith}
use lib.Dec.{eqb}
use lib.ListN.{length, get_or}
use lib.IntN.{pos}
use borrow.Author.Tests.{eqb-true, eq-eqb, ne_eqb}
use Rattle.limits.specs.Limits.{bias, task_count, most_depth}
use Rattle.walk_flow.specs.Terms.{terms_of}
use Rattle.image_header.specs.Scan.{header_of, blocks_of}
use Rattle.logic.proofs.Choice.{clash}
use Rattle.walk_fault.specs.Fault.{fault_number}
use Rattle.walk_fault.specs.Fault.{FaultResult}
use Rattle.walk.specs.Graph.{In}
use Rattle.walk.specs.Walk.{starts_anew}
use Rattle.state.specs.State.{runs, ended, halted, task_at}
use Rattle.state.specs.declared.Notes.{Notes}
use Rattle.state.specs.declared.Task.{Task}
use Rattle.state.specs.declared.Values.{Values}
use Rattle.state.specs.declared.State.{State}
use Rattle.machine.specs.Inputs.{Inputs}
use Rattle.machine.specs.Effect.{is_set}
use Rattle.machine.specs.Engine.{step, point_of, stopped, block_fits, terms_held}
use Rattle.machine.specs.Reference.{Thread, Machine, ReferenceOut, thread_at, idle}
use Rattle.machine.specs.Alike.{returns_of, SameTask, SameValues, Alike}
use Rattle.machine.specs.Run.{SameHanded, Permitted}
use Rattle.machine.specs.StepRule.{without_latest, counts, calls_after, Past, past_after, is_move_code, asks_motion, wait_over, level_noted, command_of}
use Rattle.machine.specs.StepRule.{executed, content_of, Behind, Reason, Stopped, StepRule, EachStep}
use Rattle.machine.specs.declared.Cause.{Cause}
use Rattle.machine.specs.Answers.{Answer}
use Rattle.machine.specs.declared.NotDone.TheVariants.{NoTask, Inputs as BadInputs, NotRunning, Differs, Halted}
use Rattle.machine.specs.declared.StepOut.{StepOut}

-- ---- part 1

pub value_answers_are : {os : List StepOut} {ds : List ReferenceOut} → SameHanded os ds
    → map (λ (o : StepOut). o.answer) os ≡ map (λ (d : ReferenceOut). d.answer) ds
value_answers_are SameHanded.none = refl
value_answers_are (SameHanded.more a m h) = λ ι. a ι ∷ value_answers_are h ι

pub motions_are : {os : List StepOut} {ds : List ReferenceOut} → SameHanded os ds
    → map (λ (o : StepOut). o.request) os ≡ map (λ (d : ReferenceOut). d.request) ds
motions_are SameHanded.none = refl
motions_are (SameHanded.more a m h) = λ ι. m ι ∷ motions_are h ι

-- ---- part 2: alike is equal, as far as document 01 compares

pub values_are : (v w : Values) → SameValues v w → v ≡ w
values_are v w e = λ ι. record {
  cells = record { variables = e.variables ι; flags = e.flags ι; outputs = e.outputs ι };
  motion = record {
    axis = record { position = e.position ι; speed = e.speed ι; acceleration = e.acceleration ι; deceleration = e.deceleration ι };
    mark = e.mark ι;
  };
  notes = record { level = e.level ι; moved = e.moved ι };
}

-- a running task, as the reference machine would have it
abbrev pub thread_for : Task → Thread
thread_for k = thread_at k.block k.start k.time k.turns (returns_of k.stack k.depth)

pub thread_is : (task : Task) (p : Thread) → SameTask task p → task.status ≡ runs → p ≡ thread_for task
thread_is task p e r = λ ι. record {
  runs = (sym e.running ∙ eq-eqb task.status runs r) ι;
  block = sym (e.block r) ι;
  start = sym (e.start r) ι;
  time = sym (e.time r) ι;
  turns = sym (e.turns r) ι;
  returns = sym (e.returns r) ι;
}

pub both_run : (task : Task) (p : Thread) → SameTask task p → p.runs ≡ true → task.status ≡ runs
both_run task p e r = eqb-true task.status runs (e.running ∙ r)

pub alike_is : (s : State) (m : Machine) → Alike s m
    → (s.values ≡ m.values) × ((t : ℕ) → t < task_count → (task_at s t).status ≡ runs → get_or m.threads t idle ≡ thread_for (task_at s t))
alike_is s m e = (values_are s.values m.values e.values, λ t l r. thread_is (task_at s t) (get_or m.threads t idle) (e.tasks t l) r)

-- ---- part 3: what is permitted passes the engine's own tests of a block

pub permitted_fits : (image : List ℕ) (t : ℕ) (task : Task) → Permitted image t task → block_fits (terms_of image) (blocks_of image) t task ≡ true
permitted_fits image t task p =
    let e = ap (λ (f : FaultResult). eqb (fault_number f) 0) p.fine in
    λ ι. eqb (p.sound ι) 0 && e ι

pub permitted_at : (image : List ℕ) (t : ℕ) (task : Task) → Permitted image t task → (task.block < (header_of image).header.count) × (task.depth ≤ most_depth)
permitted_at image t task p = (p.block, p.depth)

-- ---- parts 4 to 6

-- a command counts as executed where its step is answered 0, and nowhere else
pub executed_is : (a : Answer) → executed a ≡ true → a ≡ Ok tt
executed_is (Ok _) e = refl
executed_is (Err (NoTask t)) e = clash (sym e)
executed_is (Err (BadInputs n)) e = clash (sym e)
executed_is (Err NotRunning) e = clash (sym e)
executed_is (Err (Differs p)) e = clash (sym e)
executed_is (Err (Halted q p)) e = clash (sym e)

pub behind_is : (b c : ℕ) (bs : List ℕ) → Behind (b ∷ bs) c → c ≡ b + 1
behind_is b _ bs Behind.latest = refl

-- there is a latest call
pub behind_some : {l : List ℕ} {c : ℕ} → Behind l c → l ≡ [] → ⊥
behind_some Behind.latest e = let n = ap length e in omega arith

-- why a task stopped, what was answered, and what else changed: by 19, 20 or 22
pub record ByRefusal (image : List ℕ) (s : State) (x : Inputs) : Type 0 where
  pub cause : Cause
  pub reason : Reason (terms_held s).landings (command_of image s x) s.values (task_at s x.task).time cause
  pub answer : (step image s x).answer ≡ Err (Halted cause (point_of x.task (task_at s x.task)))
  pub values : (step image s x).state.values ≡ level_noted x.task x.start s.values
  pub task : task_at (step image s x).state x.task ≡ stopped halted (task_at s x.task)
  pub request : (step image s x).request ≡ None

-- or by its own 51
pub record ByItself (image : List ℕ) (s : State) (x : Inputs) : Type 0 where
  pub code : (command_of image s x).code ≡ 0x51
  pub mode : (command_of image s x).x ≡ x.task + 1
  pub answer : (step image s x).answer ≡ Ok tt
  pub task : task_at (step image s x).state x.task ≡ stopped ended (task_at s x.task)

pub how : {image : List ℕ} {s : State} {x : Inputs} → Stopped image s x → ByRefusal image s x ⊎ ByItself image s x
how (Stopped.by_refusal q r a v k m) = inl (record { cause = q; reason = r; answer = a; values = v; task = k; request = m })
how (Stopped.by_itself c m a k) = inr (record { code = c; mode = m; answer = a; task = k })

module _ {image : List ℕ} {past : Past} {s : State} {x : Inputs} (e : StepRule image past s x) where
  -- a 53 comes to the block behind the call that is the latest
  pub returns_to : (b : ℕ) (bs : List ℕ) → past.calls x.task ≡ b ∷ bs → executed (step image s x).answer ≡ true → (command_of image s x).code ≡ 0x53
      → (task_at (step image s x).state x.task).block ≡ b + 1
  returns_to b bs q a c = behind_is b _ bs (rw q at (e.returns a c))

  -- a task that 54, 57 or 90 does not name, nor 5B, stays as it is
  pub stays_put : (t : ℕ) → t < task_count → (t ≡ x.task → ⊥) → starts_anew (command_of image s x).code t ≡ false → task_at (step image s x).state t ≡ task_at s t
  stays_put t l n f = ⊎_elim (λ q. q) (λ q. clash (sym q.1 ∙ f)) (e.others t l n)

  -- and runs on
  pub runs_on : (t : ℕ) → t < task_count → (t ≡ x.task → ⊥) → (task_at s t).status ≡ runs → ((task_at (step image s x).state t).status ≡ runs → ⊥) → ⊥
  runs_on t l n r d = n (e.stops t l r d).0

  -- a step of another task leaves both notes of BIAS
  pub notes_stay : (x.task ≡ bias → ⊥)
      → ((step image s x).state.values.notes.level ≡ s.values.notes.level) × ((step image s x).state.values.notes.moved ≡ s.values.notes.moved)
  notes_stay n = (ap (λ (k : Notes). k.level) (e.notes n), ap (λ (k : Notes). k.moved) (e.notes n))

  -- the header stays
  pub header_stays : (step image s x).state.header ≡ s.header
  header_stays = e.header

  -- and so does the landing list
  pub landings_stay : (step image s x).state.landings ≡ s.landings
  landings_stay = e.landings

  -- ---- part 9

  -- a 56 that is executed came to a block of the landing list, and its variable holds that block's number
  pub lands_listed : executed (step image s x).answer ≡ true → (command_of image s x).code ≡ 0x56
      → In (task_at (step image s x).state x.task).block (terms_held s).landings
      × (content_of image s x ≡ pos (task_at (step image s x).state x.task).block)
  lands_listed a c = let k = e.jumps a c in (k.listed, k.holds)

  -- so has BIAS behind a 5B, which runs there from its program start, inside no call and with no wait
  pub begins_listed : executed (step image s x).answer ≡ true → (command_of image s x).code ≡ 0x5B
      → In (task_at (step image s x).state bias).block (terms_held s).landings
      × (content_of image s x ≡ pos (task_at (step image s x).state bias).block)
  begins_listed a c = let k = (e.begins a c).0 in (k.listed, k.holds)

  pub begins_anew : executed (step image s x).answer ≡ true → (command_of image s x).code ≡ 0x5B
      → ((task_at (step image s x).state bias).status ≡ runs) × (((task_at (step image s x).state bias).depth ≡ 0)
      × (((task_at (step image s x).state bias).time ≡ 0) × (((task_at (step image s x).state bias).turns ≡ 0)
      × ((task_at (step image s x).state bias).start ≡ s.header.start))))
  begins_anew a c = let k = (e.begins a c).1 in (k.running, (k.outside, (k.time, (k.turns, k.start))))

  -- ---- part 8

  module _ (a : executed (step image s x).answer ≡ true) (c : (command_of image s x).code ≡ 0x58) where
    block_after : (t : Bool) → wait_over x past.moved ≡ t
        → (task_at (step image s x).state x.task).block ≡ cond t ((task_at s x.task).block + 1) (task_at s x.task).block
    block_after t p = e.arrives a c ∙ ap (λ (q : Bool). cond q ((task_at s x.task).block + 1) (task_at s x.task).block) p

    -- a 58 stays right behind a move, and where one of the bits is not given
    pub stays_behind_move : past.moved ≡ true → (task_at (step image s x).state x.task).block ≡ (task_at s x.task).block
    stays_behind_move m = block_after false (rw (m, and-false (is_set x.in_window), and-false (is_set x.ramp_ended)) refl)

    pub stays_on_ramp : x.ramp_ended ≡ 0 → (task_at (step image s x).state x.task).block ≡ (task_at s x.task).block
    stays_on_ramp z = block_after false (rw z refl)

    pub stays_outside : x.in_window ≡ 0 → (task_at (step image s x).state x.task).block ≡ (task_at s x.task).block
    stays_outside z = block_after false (rw (z, and-false (is_set x.ramp_ended)) refl)

    -- and goes on where both are given and the latest executed BIAS step was no move
    pub goes_on : (x.ramp_ended ≡ 0 → ⊥) → (x.in_window ≡ 0 → ⊥) → past.moved ≡ false
        → (task_at (step image s x).state x.task).block ≡ (task_at s x.task).block + 1
    goes_on r w m = block_after true (rw (ne_eqb x.ramp_ended 0 r, ne_eqb x.in_window 0 w, m) refl)

-- what is told of the steps before comes from codes, answers and requests alone, of whatever state
module _ (image : List ℕ) (past : Past) (s : State) (x : Inputs) where
  -- a call opens, behind the block of its 52; a return takes the latest off
  pub tells_a_call : executed (step image s x).answer ≡ true → (command_of image s x).code ≡ 0x52
      → (past_after image s x past).calls x.task ≡ (task_at s x.task).block ∷ past.calls x.task
  unfolding past_after calls_after counts
  tells_a_call a c = rw (a, c, eq-eqb x.task x.task refl) refl

  pub tells_a_return : executed (step image s x).answer ≡ true → (command_of image s x).code ≡ 0x53
      → (past_after image s x past).calls x.task ≡ without_latest (past.calls x.task)
  unfolding past_after calls_after counts
  tells_a_return a c = rw (a, c, eq-eqb x.task x.task refl) refl

  -- a 5B leaves BIAS without any
  pub tells_a_start : executed (step image s x).answer ≡ true → (command_of image s x).code ≡ 0x5B → (past_after image s x past).calls bias ≡ []
  unfolding past_after calls_after counts
  tells_a_start a c = rw (a, c) refl

  -- a move of BIAS that was carried out
  pub tells_a_move : x.task ≡ bias → executed (step image s x).answer ≡ true → is_move_code (command_of image s x).code ≡ true
      → asks_motion (step image s x).request ≡ true → (past_after image s x past).moved ≡ true
  unfolding past_after
  tells_a_move t a c r = λ ι. cond (eq-eqb x.task bias t ι && a ι) (c ι && r ι) past.moved

  -- another command of BIAS that was executed, or a move that asked for nothing
  pub tells_none : x.task ≡ bias → executed (step image s x).answer ≡ true
      → (is_move_code (command_of image s x).code && asks_motion (step image s x).request) ≡ false → (past_after image s x past).moved ≡ false
  unfolding past_after
  tells_none t a n = rw (eq-eqb x.task bias t, a, n) refl

  -- a step of another task, and one that was refused or halted its task, leave it as it was
  pub others_tell_nothing : (x.task ≡ bias → ⊥) → (past_after image s x past).moved ≡ past.moved
  unfolding past_after
  others_tell_nothing n = rw (ne_eqb x.task bias n) refl

  pub refused_tell_nothing : executed (step image s x).answer ≡ false → (past_after image s x past).moved ≡ past.moved
  unfolding past_after
  refused_tell_nothing f = rw (f, and-false (eqb x.task bias)) refl

pub first_step : {image : List ℕ} {past : Past} {s : State} {x : Inputs} {xs : List Inputs} → EachStep image past s (x ∷ xs)
    → StepRule image past s x × EachStep image (past_after image s x past) (step image s x).state xs
first_step (EachStep.more p q) = (p, q)

-- What a step comes to in a run, for the engine and the reference machine at once: both refuse it, or both execute the command.
use Rattle.std.specs.Prelude.{Ok, Err}
use Prim.Native.Nat.{ℕ, zero, suc, ◌<◌}
use mathlib.Core.Path.{◌≡◌, refl, sym, ap, subst, ◌∙◌}
use mathlib.Core.Bool.{Bool, true, false, cond}
use mathlib.Core.List.{List, [], ◌∷◌}
use mathlib.Core.Logic.{⊎_elim}
use native.Mathlib.Omega.{arith}
use lib.Dec.{T, eqb, ltb}
use lib.ListN.{length, get_or}
use borrow.Author.Tests.{eqb-true, eqb-false, ltb-true, ltb-false, lt-ltb, le-ltb}
use Rattle.limits.specs.Limits.{task_count, inputs_length}
use Rattle.image_header.specs.Scan.{header_of, landings_of, blocks_of}
use Rattle.walk_flow.specs.Terms.{Terms}
use Rattle.logic.proofs.Choice.{clash}
use Rattle.command_table.specs.Rows.{rows, row_in, row_of, no_row}
use Rattle.command_table.specs.declared.Row.{Row as Columns}
use Rattle.command_table.specs.declared.FlowKind.TheVariants.{Nothing}
use Rattle.command_table.proofs.EveryRow.{every, every_row}
use Rattle.command_table.proofs.FlowKinds.{is}
use Rattle.command_operands.specs.declared.Command.{Command}
use Rattle.walk_flow.specs.Flow.{flow_of}
use Rattle.walk_flow.specs.Permission.{permitted}
use Rattle.walk.specs.Blocks.{command_at}
use Rattle.walk.specs.Walk.{Reaches}
use Rattle.walk.proofs.Steps.Moves.{carried}
use Rattle.walk.proofs.Points.Within.{Passes}
use Rattle.state.specs.State.{runs, task_at}
use Rattle.state.specs.declared.Task.{Task}
use Rattle.state.specs.declared.State.{State}
use Rattle.machine.specs.Inputs.{Inputs, level}
use Rattle.machine.specs.Effect.{effect_of}
use Rattle.image_header.specs.Rows.{same_landings}
use Rattle.image_header.proofs.Numbers.{is_same}
use Rattle.machine.proofs.Steps.Landings.{taken_same}
use Rattle.machine.specs.Engine.{point_of, context_of, performed, fits, refuse, task_step, step, terms_held}
use Rattle.machine.specs.Reference.{Thread, Machine, idle, landing_blocks, does, stands_still, lost, tries, acts, reference_step}
use Rattle.machine.specs.Alike.{returns_of, SameTask}
use Rattle.machine.specs.StepRule.{command_of, executed}
use Rattle.machine.specs.Allows.{Allows}
use Rattle.machine.specs.Answers.{Answer}
use Rattle.machine.specs.declared.NotDone.TheVariants.{NoTask, Inputs as BadInputs, NotRunning}
use Rattle.machine.specs.declared.Effect.{Effect}
use Rattle.machine.specs.declared.Outcome.{Outcome}
use Rattle.machine.specs.declared.Outcome.TheVariants.{GoOn, Stay, Jump, Call, Return, Start, Restart, End, Halt}
use Rattle.machine.proofs.Rows.Forms.{Law}
use Rattle.machine.proofs.Rows.EveryLaw.{every_law}
use Rattle.machine.proofs.Runs.Accepted.{Accepted, hd, body, within, passing}
use Rattle.machine.proofs.Rows.Outcomes.{return_deep}
use Rattle.machine.proofs.Steps.TasksAfter.{Both}

length_returns : (stack : List ℕ) (d : ℕ) → length (returns_of stack d) ≡ d
length_returns stack zero = refl
length_returns stack (suc d) = ap suc (length_returns stack d)

-- a code that some task may use is carried
is_carried : ℕ → Columns → Bool
is_carried code r = r.carried

all_carried : T (every is_carried rows)
unfolding is_carried rows
all_carried = tt

pub used_carried : (h : Terms) (code task : ℕ) → permitted h code task ≡ true → (row_of code).carried ≡ true
unfolding row_of is_carried
used_carried h code task a =
    ⊎_elim (λ (n : row_in rows code ≡ no_row). clash (sym (ap (λ (r : Columns). is r.flow Nothing) n) ∙ (carried h code task a).some)) (λ t. t)
    (every_row is_carried rows all_carried code)

module _ (image : List ℕ) where
  abbrev h : Terms
  h = hd image

  abbrev bs : List ℕ
  bs = body image

  -- what holds of both states along a run
  pub record Agree (s : State) (m : Machine) : Type 0 where
    pub header : s.header ≡ h.header
    pub landings : s.landings ≡ landings_of image
    pub both : Both image s.tasks m.threads
    pub values : s.values ≡ m.values

  -- the landing blocks of the state are those of the image
  pub held_same : {s : State} {m : Machine} → Agree s m → (terms_held s).landings ≡ h.landings
  held_same g = rw (g.header, g.landings)

  -- what the command of the step's task comes to
  abbrev pub effect_here : State → Inputs → Effect
  effect_here s x = effect_of x.levels (terms_held s).landings (context_of s (task_at s x.task) x) (command_of image s x) s.values

  abbrev pub thread_of : Machine → Inputs → Thread
  thread_of m x = get_or m.threads x.task idle

  -- a step that is executed: where its task is, that its command breaks nothing there, and what it comes to
  pub record Ran (s : State) (m : Machine) (x : Inputs) : Type 0 where
    pub task : x.task < task_count
    pub running : (task_at s x.task).status ≡ runs
    pub depth : (task_at s x.task).depth ≡ length (thread_of m x).returns
    pub passes : Passes h (command_of image s x) (point_of x.task (task_at s x.task))
    pub law : Law (terms_held s).landings (command_of image s x).code (command_of image s x) (context_of s (task_at s x.task) x) s.values (effect_here s x)
    pub engine : step image s x ≡ performed s x (task_at s x.task) (effect_here s x)
    pub reference : reference_step image m x ≡ does m x (thread_of m x) (effect_here s x)

  pub data Case (s : State) (m : Machine) (x : Inputs) : Type 0 where
    refused : (a : Answer) → executed a ≡ false → step image s x ≡ refuse s a → reference_step image m x ≡ stands_still m a → Case s m x
    ran : Ran s m x → Case s m x

  module _ (ok : Accepted image) (s : State) (m : Machine) (g : Agree s m) (x : Inputs) (l : x.task < task_count) (r : (task_at s x.task).status ≡ runs) where
    abbrev t : ℕ
    t = x.task

    abbrev own : Task
    own = task_at s t

    abbrev p : Thread
    p = get_or m.threads t idle

    abbrev c : Command
    c = command_at bs own.block

    here : Reaches h bs (point_of t own)
    here = (g.both.sound t l).reach r

    same : SameTask own p
    same = g.both.same t l

    -- the landing list that the image has is the one that was loaded
    loaded_same : same_landings h.header.landings (landings_of image) h.landings ≡ true
    loaded_same = taken_same h.header.landings (landings_of image)

    -- 17 lets every step of a run pass
    fits_here : fits image (terms_held s) t own ≡ true
    unfolding fits
    fits_here =
        rw (
          ok.read,
          g.header,
          g.landings,
          is_same h.header,
          loaded_same,
          ok.blocks own.block (within image ok (point_of t own) here).block,
          ok.fine (point_of t own) here,
          (g.both.sound t l).wait r,
        )

    carried_here : (row_of c.code).carried ≡ true
    carried_here = used_carried h c.code t (passing image ok (point_of t own) here).allowed

    depth_here : own.depth ≡ length p.returns
    depth_here = sym (length_returns own.stack own.depth) ∙ ap length (same.returns r)

    -- what the command comes to
    abbrev e : Effect
    e = effect_here s x

    law : Law (terms_held s).landings c.code c (context_of s own x) s.values e
    law = every_law x.levels (terms_held s).landings (context_of s own x) c s.values carried_here

    in_flow : Allows (terms_held s).landings (flow_of h c) e.outcome
    unfolding flow_of
    in_flow = law.outcome.flow

    not_lost : (o : Outcome) → Allows (terms_held s).landings (flow_of h c) o → lost o p.returns ≡ false
    not_lost GoOn f = refl
    not_lost (Stay time turns) f = refl
    not_lost (Jump a) f = refl
    not_lost (Call a) f = refl
    not_lost Return f =
        some p.returns
        (λ e. eqb-false own.depth 0 (sym (return_deep (terms_held s).landings (point_of t own) (flow_of h c) f) ∙ (passing image ok (point_of t own) here).called) (depth_here ∙ e))
      where
        some : (xs : List ℕ) → (length xs ≡ 0 → ⊥) → lost Return xs ≡ false
        some [] n = absurd (n refl)
        some (y ∷ ys) n = refl
    not_lost (Start u a) f = refl
    not_lost Restart f = refl
    not_lost End f = refl
    not_lost (Halt q) f = refl

    -- the reference machine sees the same wait and values
    effect_same : effect_of x.levels (landing_blocks image)
        (record {
          drive = (header_of image).header.drive;
          start = level x.start;
          ramp_ended = level x.ramp_ended;
          in_window = level x.in_window;
          time = p.time;
          turns = p.turns;
        })
        (command_at (blocks_of image) own.block) m.values
        ≡ e
    effect_same = rw (← same.time r, ← same.turns r, ← g.values, g.header, g.landings)

    tries_is : tries m x p e ≡ does m x p e
    unfolding tries
    tries_is = ap (λ (b : Bool). cond b (stands_still m (Ok tt)) (does m x p e)) (not_lost e.outcome in_flow)

    acts_is : acts image m x p ≡ does m x p e
    unfolding acts
    acts_is =
        rw (
          lt-ltb p.block h.header.count (subst (λ (b : ℕ). b < h.header.count) (same.block r) (within image ok (point_of t own) here).block),
          ← same.block r,
          carried_here,
        )
        (ap (tries m x p) effect_same ∙ tries_is)

    ran_here : step image s x ≡ performed s x own e → reference_step image m x ≡ acts image m x p → Case s m x
    ran_here i j = Case.ran (record {
      task = l;
      running = r;
      depth = depth_here;
      passes = passing image ok (point_of t own) here;
      law = law;
      engine = i;
      reference = j ∙ acts_is;
    })

  -- ---- the whole step

  module _ (ok : Accepted image) (s : State) (m : Machine) (g : Agree s m) (x : Inputs) where
    running_case : (l : x.task < task_count) (a : Bool) → eqb (task_at s x.task).status runs ≡ a → step image s x ≡ task_step image s x (task_at s x.task)
        → reference_step image m x ≡ cond a (acts image m x (thread_of m x)) (stands_still m (Err NotRunning)) → Case s m x
    unfolding task_step
    running_case l true e i j =
        ran_here ok s m g x l (eqb-true _ runs e) (i ∙ rw (e, fits_here ok s m g x l (eqb-true _ runs e))) j
    running_case l false e i j = Case.refused (Err NotRunning) refl (i ∙ rw e) j

    inputs_case : (l : x.task < task_count) (a : Bool) → eqb (length x.levels) inputs_length ≡ a
        → step image s x ≡ cond a (task_step image s x (task_at s x.task)) (refuse s (Err (BadInputs (length x.levels))))
        → reference_step image m x ≡ cond a (cond (thread_of m x).runs (acts image m x (thread_of m x)) (stands_still m (Err NotRunning)))
        (stands_still m (Err (BadInputs (length x.levels)))) → Case s m x
    inputs_case l true e i j = running_case l (eqb (task_at s x.task).status runs) refl i (j ∙ rw (g.both.same x.task l).running refl)
    inputs_case l false e i j = Case.refused (Err (BadInputs (length x.levels))) refl i j

    pub step_case : Case s m x
    unfolding step reference_step
    step_case = go (ltb x.task task_count) refl
      where
        go : (a : Bool) → ltb x.task task_count ≡ a → Case s m x
        go true e =
            let l = ltb-true x.task task_count e in
            let i : step image s x ≡ cond (eqb (length x.levels) inputs_length) (task_step image s x (task_at s x.task))
            (refuse s (Err (BadInputs (length x.levels)))) = rw e in
            inputs_case l (eqb (length x.levels) inputs_length) refl i (rw (le-ltb 2 x.task (omega arith)))
        go false e = let l = ltb-false x.task task_count e in Case.refused (Err (NoTask x.task)) refl (rw e) (rw (lt-ltb 2 x.task (omega arith)))

-- The tasks of the engine and of the reference machine after a command, outcome by outcome: both stay alike, and the invariant holds on.
use Prim.Native.Nat.{ℕ, zero, suc, ◌+◌, ◌<◌}
use mathlib.Core.Path.{◌≡◌, refl, sym, ap, ◌∙◌}
use mathlib.Core.Bool.{true}
use mathlib.Core.List.{List, [], ◌∷◌}
use native.Mathlib.Omega.{arith}
use native.Mathlib.Decide.{ℕ_discrete}
use lib.ListN.{length, get_or, set, length-set}
use lib.Seq.{get_or-set_same, get_or-set_other}
use borrow.Author.Tests.{eqb-false, leb-false}
use Rattle.logic.proofs.Lists.{at_set}
use Rattle.limits.specs.Limits.{task_count, most_depth}
use Rattle.walk_flow.specs.Terms.{Terms}
use Rattle.walk_flow.specs.Flow.{flow_of}
use Rattle.walk_point.specs.PointFault.{point}
use Rattle.walk_point.specs.declared.Point.{Point}
use Rattle.walk.specs.Blocks.{command_at}
use Rattle.walk.specs.Walk.{Reaches}
use Rattle.walk.specs.Graph.{In}
use Rattle.walk.specs.Successors.{leads_to as walked}
use Rattle.command_operands.specs.declared.Command.{Command}
use Rattle.state.specs.State.{runs, ended, halted, no_task}
use Rattle.state.specs.declared.Task.{Task}
use Rattle.machine.specs.Engine.{go_to, stay_with, call_to, return_from, start_anew, restarted, stopped, tasks_after, point_of}
use Rattle.machine.specs.Reference.{Thread, thread_at, off, goes_to, back, anew, idle, follows}
use Rattle.machine.specs.Allows.{Allows}
use Rattle.machine.specs.Alike.{SameTask}
use Rattle.machine.specs.declared.Outcome.{Outcome}
use Rattle.machine.specs.declared.Outcome.TheVariants.{GoOn, Stay, Jump, Call, Return, Start, Restart, End, Halt}
use Rattle.machine.proofs.Runs.Accepted.{Accepted, hd, body, within, passing, reach_next}
use Rattle.machine.proofs.Rows.Outcomes.{on_in, jump_in, call_in, behind_in, call_deep, return_deep, start_in, start_on}
use Rattle.machine.proofs.Steps.Reached.{Sound, go_sound, stay_sound, call_sound, return_sound, restart_sound, stop_sound, start_sound}
use Rattle.machine.proofs.Steps.Alike.{go_same, stay_same, call_same, return_same, restart_same, stop_same, start_same}
use Rattle.machine.proofs.Rows.Forms.{timeless}

-- of two stores to a place the second counts
pub set_set : {A : Type 0} (l : List A) (t : ℕ) (x y : A) → set (set l t x) t y ≡ set l t y
set_set [] t x y = refl
set_set (a ∷ l) zero x y = refl
set_set (a ∷ l) (suc t) x y = ap (λ m. a ∷ m) (set_set l t x y)

back_start : (p : Thread) (l : List ℕ) → (back p l).start ≡ p.start
back_start p [] = refl
back_start p (x ∷ l) = refl

module _ (image : List ℕ) where
  abbrev h : Terms
  h = hd image

  abbrev bs : List ℕ
  bs = body image

  -- the three tasks of both, alike and sound
  pub record Both (ts : List Task) (ps : List Thread) : Type 0 where
    pub three : length ts ≡ task_count
    pub also : length ps ≡ task_count
    pub sound : (t : ℕ) → t < task_count → Sound h bs t (get_or ts t no_task)
    pub same : (t : ℕ) → t < task_count → SameTask (get_or ts t no_task) (get_or ps t idle)
    pub first : (get_or ps 0 idle).start ≡ h.header.start

  put_both : (ts : List Task) (ps : List Thread) (t : ℕ) (task : Task) (p : Thread) → Both ts ps → t < task_count → Sound h bs t task → SameTask task p
      → (t ≡ 0 → p.start ≡ h.header.start) → Both (set ts t task) (set ps t p)
  put_both ts ps t task p b l s m f =
      let n = b.three in
      let o = b.also in
      record {
        three = length-set ts t task ∙ b.three;
        also = length-set ps t p ∙ b.also;
        sound = at_set no_task (λ u x. u < task_count → Sound h bs u x) ts t task (omega arith) (λ _. s) (λ u _ i. b.sound u i);
        same = λ u i. pair u i (ℕ_discrete u t);
        first = at_set idle (λ u x. u ≡ 0 → x.start ≡ h.header.start) ps t p (omega arith) f (λ u _ e. rw e b.first) 0 refl;
      }
    where
      pair : (u : ℕ) → u < task_count → Dec (u ≡ t) → SameTask (get_or (set ts t task) u no_task) (get_or (set ps t p) u idle)
      pair u i (yes e) = let n = b.three in let o = b.also in rw (e, get_or-set_same ts t task no_task (omega arith), get_or-set_same ps t p idle (omega arith)) m
      pair u i (no d) = rw (get_or-set_other ts t u task no_task d, get_or-set_other ps t u p idle d) (b.same u i)

  -- ---- the task that executes, and its command

  module _ (ok : Accepted image) (ts : List Task) (ps : List Thread) (b : Both ts ps) (t : ℕ) (l : t < task_count) (r : (get_or ts t no_task).status ≡ runs) where
    abbrev task : Task
    task = get_or ts t no_task

    abbrev p : Thread
    p = get_or ps t idle

    abbrev c : Command
    c = command_at bs task.block

    here : Reaches h bs (point_of t task)
    here = (b.sound t l).reach r

    next : (q : Point) → In q (walked h.landings (point_of t task) (flow_of h c)) → Reaches h bs q
    next q m = reach_next image ok (point_of t task) q here m

    started : t ≡ 0 → p.start ≡ h.header.start
    started e = rw e b.first

    put_here : (task' : Task) (p' : Thread) → Sound h bs t task' → SameTask task' p' → (t ≡ 0 → p'.start ≡ h.header.start)
        → Both (set ts t task') (set ps t p')
    put_here task' p' s m f = put_both ts ps t task' p' b l s m f

    went : (a a' : ℕ) → a ≡ a' → Reaches h bs (point t a task.depth) → Both (set ts t (go_to a task)) (set ps t (goes_to a' p))
    went a a' e q = put_here (go_to a task) (goes_to a' p) (go_sound h bs t task (b.sound t l) r a q) (go_same task p (b.same t l) r a a' e) started

    behind : task.block + 1 ≡ p.block + 1
    behind = ap (λ (n : ℕ). n + 1) ((b.same t l).block r)

    -- another task starts, or the own one does
    starts : (u a : ℕ) → u < task_count → Allows h.landings (flow_of h c) (Start u a) → Dec (u ≡ t)
        → Both (set (set ts t (go_to (task.block + 1) task)) u (start_anew h.header.start u a)) (set (set ps t (goes_to (p.block + 1) p)) u (anew u a ps))
    starts u a i m (no n) =
        put_both (set ts t (go_to (task.block + 1) task)) (set ps t (goes_to (p.block + 1) p)) u (start_anew h.header.start u a) (anew u a ps)
        (went (task.block + 1) (p.block + 1) behind (next _ (start_on h.landings (point_of t task) (flow_of h c) u a m n))) i
        (start_sound h bs u a (next _ (start_in h.landings (point_of t task) (flow_of h c) u a m)))
        (start_same h.header.start u a ps (sym b.first)) (λ e. rw e b.first)
    starts u a i m (yes e) =
        rw (e, set_set ts t (go_to (task.block + 1) task) (start_anew h.header.start t a), set_set ps t (goes_to (p.block + 1) p) (anew t a ps))
        (put_here (start_anew h.header.start t a) (anew t a ps) (start_sound h bs t a (rw e at (next _ (start_in h.landings (point_of t task) (flow_of h c) u a m))))
        (start_same h.header.start t a ps (sym b.first)) (λ z. rw z b.first))

    pub turned : (o : Outcome) → Allows h.landings (flow_of h c) o → timeless c.code o ≡ true → Both (tasks_after h.header.start t task o ts) (follows t p o ps)
    unfolding follows
    turned GoOn m w = went (task.block + 1) (p.block + 1) behind (next _ (on_in h.landings (point_of t task) (flow_of h c) m))
    turned (Stay time turns) m w =
        put_here (stay_with time turns task) (thread_at p.block p.start time turns p.returns) (stay_sound h bs t task (b.sound t l) r time turns w)
        (stay_same task p (b.same t l) r time turns) started
    turned (Jump a) m w = went a a refl (next _ (jump_in h.landings (point_of t task) (flow_of h c) a m))
    turned (Call a) m w =
        let d = leb-false most_depth task.depth (sym (call_deep h.landings (point_of t task) (flow_of h c) a m) ∙ (passing image ok (point_of t task) here).shallow) in
        let e = (b.sound t l).long in
        put_here (call_to a task) (thread_at a p.start 0 0 ((p.block + 1) ∷ p.returns))
        (call_sound h bs t task (b.sound t l) r a (next _ (call_in h.landings (point_of t task) (flow_of h c) a m)) (next _ (behind_in h.landings (point_of t task) (flow_of h c) a m))
        d)
        (call_same task p (b.same t l) r a (omega arith)) started
    turned Return m w =
        let n = eqb-false task.depth 0 (sym (return_deep h.landings (point_of t task) (flow_of h c) m) ∙ (passing image ok (point_of t task) here).called) in
        put_here (return_from task) (back p p.returns) (return_sound h bs t task (b.sound t l) r n) (return_same task p (b.same t l) r n)
        (λ e. back_start p p.returns ∙ started e)
    turned (Start u a) m w =
        starts u a (within image ok (point u a 0) (next _ (start_in h.landings (point_of t task) (flow_of h c) u a m))).task m (ℕ_discrete u t)
    turned Restart m w =
        put_here (restarted task) (thread_at p.start p.start 0 0 []) (restart_sound h bs t task (b.sound t l) r) (restart_same task p (b.same t l) r)
        started
    turned End m w =
        put_here (stopped ended task) (off p) (stop_sound h bs t task (b.sound t l) r ended (λ e. omega arith))
        (stop_same task p (b.same t l) r ended (λ e. omega arith)) started
    turned (Halt q) m w =
        put_here (stopped halted task) (off p) (stop_sound h bs t task (b.sound t l) r halted (λ e. omega arith))
        (stop_same task p (b.same t l) r halted (λ e. omega arith)) started

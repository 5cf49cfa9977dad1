-- The invariant of a run, task by task: a task that runs is at a point that some walk reaches, its start and each entry of its call stack too. Each
-- operation on tasks keeps it.
use Prim.Native.Nat.{ℕ, ◌+◌, ◌-◌, ◌<◌}
use mathlib.Core.Path.{◌≡◌, refl, ◌∙◌}
use mathlib.Core.Bool.{Bool, true, false, not, ◌||◌, cond}
use mathlib.Core.List.{List, []}
use native.Mathlib.Omega.{arith}
use native.Mathlib.Decide.{ℕ_discrete}
use lib.Dec.{eqb}
use lib.ListN.{length, get_or, set, length-set}
use lib.Seq.{get_or-set_same, get_or-set_other}
use borrow.Author.Tests.{eqb-true}
use Rattle.limits.specs.Limits.{bias, most_depth}
use Rattle.walk_flow.specs.Terms.{Terms}
use Rattle.walk_point.specs.PointFault.{point}
use Rattle.walk.specs.Blocks.{command_at}
use Rattle.walk.specs.Walk.{Walk, Reaches}
use Rattle.state.specs.State.{runs, never_started}
use Rattle.state.specs.declared.Task.{Task}
use Rattle.machine.specs.Effect.{is_set}
use Rattle.machine.specs.Engine.{go_to, stay_with, call_to, return_from, start_anew, restarted, stopped, point_of, is_wait, wait_fits}

module _ (h : Terms) (bs : List ℕ) where
  pub record Sound (t : ℕ) (task : Task) : Type 0 where
    pub reach : task.status ≡ runs → Reaches h bs (point_of t task)
    pub home : task.status ≡ runs → Reaches h bs (point t task.start 0)
    pub backs : task.status ≡ runs → (i : ℕ) → i < task.depth → Reaches h bs (point t (get_or task.stack i 0) i)
    pub long : length task.stack ≡ most_depth
    pub wait : task.status ≡ runs → wait_fits bs task ≡ true

  -- a task that does not run
  idle_sound : (t : ℕ) (task : Task) → length task.stack ≡ most_depth → (task.status ≡ runs → ⊥) → Sound t task
  idle_sound t task l n = record { reach = λ e. absurd (n e); home = λ e. absurd (n e); backs = λ e. absurd (n e); long = l; wait = λ e. absurd (n e) }

  pub never_sound : (t : ℕ) → Sound t never_started
  never_sound t = idle_sound t never_started refl (λ e. omega arith)

  module _ (t : ℕ) (task : Task) (s : Sound t task) (r : task.status ≡ runs) where
    pub go_sound : (b : ℕ) → Reaches h bs (point t b task.depth) → Sound t (go_to b task)
    go_sound b q = record { reach = λ _. q; home = λ _. s.home r; backs = λ _. s.backs r; long = s.long; wait = λ _. refl }

    pub stay_sound : (time turns : ℕ) → (not (is_set time) || is_wait (command_at bs task.block).code) ≡ true → Sound t (stay_with time turns task)
    stay_sound time turns w = record { reach = λ _. s.reach r; home = λ _. s.home r; backs = λ _. s.backs r; long = s.long; wait = λ _. w }

    pub call_sound : (a : ℕ) → Reaches h bs (point t a (task.depth + 1)) → Reaches h bs (point t (task.block + 1) task.depth) → task.depth < most_depth
        → Sound t (call_to a task)
    call_sound a q b d = record {
      reach = λ _. q;
      home = λ _. s.home r;
      backs = λ _ i l. entry i l (ℕ_discrete i task.depth);
      long = length-set task.stack task.depth (task.block + 1) ∙ s.long;
      wait = λ _. refl;
    }
      where
        entry : (i : ℕ) → i < task.depth + 1 → Dec (i ≡ task.depth) → Reaches h bs (point t (get_or (set task.stack task.depth (task.block + 1)) i 0) i)
        entry i l (yes e) = let n = s.long in rw (e, get_or-set_same task.stack task.depth (task.block + 1) 0 (omega arith)) b
        entry i l (no n) = rw (get_or-set_other task.stack task.depth i (task.block + 1) 0 n) (s.backs r i (omega arith))

    pub return_sound : (task.depth ≡ 0 → ⊥) → Sound t (return_from task)
    return_sound n = record {
      reach = λ _. s.backs r (task.depth - 1) (omega arith);
      home = λ _. s.home r;
      backs = λ _ i l. rw (get_or-set_other task.stack (task.depth - 1) i 0 0 (omega arith)) (s.backs r i (omega arith));
      long = length-set task.stack (task.depth - 1) 0 ∙ s.long;
      wait = λ _. refl;
    }

    pub restart_sound : Sound t (restarted task)
    restart_sound = record { reach = λ _. s.home r; home = λ _. s.home r; backs = λ _ i l. absurd (omega arith); long = refl; wait = λ _. refl }

    pub stop_sound : (status : ℕ) → (status ≡ runs → ⊥) → Sound t (stopped status task)
    stop_sound status n = idle_sound t (stopped status task) s.long n

  pub start_sound : (u a : ℕ) → Reaches h bs (point u a 0) → Sound u (start_anew h.header.start u a)
  start_sound u a q = record { reach = λ _. q; home = λ _. home (eqb u bias) refl; backs = λ _ i l. absurd (omega arith); long = refl; wait = λ _. refl }
    where
      home : (b : Bool) → eqb u bias ≡ b → Reaches h bs (point u (cond b h.header.start a) 0)
      home true e = rw (eqb-true u bias e) (record { path = []; walk = Walk.begin })
      home false e = q

-- Each operation on an engine's task and on the reference machine's task keeps them alike.
use Prim.Native.Nat.{ℕ, zero, suc, ◌+◌, ◌-◌, ◌<◌, ◌≤◌}
use mathlib.Core.Path.{◌≡◌, refl, sym, ◌∙◌}
use mathlib.Core.List.{List, [], ◌∷◌}
use native.Mathlib.Omega.{arith}
use native.Mathlib.Numerals.{add-one}
use lib.ListN.{length, get_or, set}
use lib.Seq.{get_or-set_same, get_or-set_other}
use borrow.Author.Tests.{ne_eqb}
use Rattle.state.specs.State.{runs}
use Rattle.state.specs.declared.Task.{Task}
use Rattle.machine.specs.Engine.{go_to, stay_with, call_to, return_from, start_anew, restarted, stopped}
use Rattle.machine.specs.Reference.{Thread, thread_at, off, goes_to, back, anew, idle}
use Rattle.machine.specs.Alike.{returns_of, SameTask}

-- a store above the depth changes no entry that counts
returns_set : (stack : List ℕ) (i d x : ℕ) → d ≤ i → returns_of (set stack i x) d ≡ returns_of stack d
returns_set stack i zero x l = refl
returns_set stack i (suc d) x l = rw (get_or-set_other stack i d x 0 (omega arith), returns_set stack i d x (omega arith))

returns_call : (stack : List ℕ) (d x : ℕ) → d < length stack → returns_of (set stack d x) (d + 1) ≡ x ∷ returns_of stack d
returns_call stack d x l = rw (add-one d, get_or-set_same stack d x 0 l, returns_set stack d d x (omega arith))

pub returns_return : (stack : List ℕ) (d : ℕ) → (d ≡ 0 → ⊥) → returns_of stack d ≡ get_or stack (d - 1) 0 ∷ returns_of stack (d - 1)
returns_return stack zero n = absurd (n refl)
returns_return stack (suc d) n = let e : suc d - 1 ≡ d = omega arith in rw e

module _ (task : Task) (p : Thread) (s : SameTask task p) (r : task.status ≡ runs) where
  pub go_same : (b c : ℕ) → b ≡ c → SameTask (go_to b task) (goes_to c p)
  go_same b c e = record { running = refl; block = λ _. e; returns = λ _. s.returns r; start = λ _. s.start r; time = λ _. refl; turns = λ _. refl }

  pub stay_same : (time turns : ℕ) → SameTask (stay_with time turns task) (thread_at p.block p.start time turns p.returns)
  stay_same time turns =
      record { running = refl; block = λ _. s.block r; returns = λ _. s.returns r; start = λ _. s.start r; time = λ _. refl; turns = λ _. refl }

  pub call_same : (a : ℕ) → task.depth < length task.stack → SameTask (call_to a task) (thread_at a p.start 0 0 ((p.block + 1) ∷ p.returns))
  call_same a l = record {
    running = refl;
    block = λ _. refl;
    returns = λ _. returns_call task.stack task.depth (task.block + 1) l ∙ rw (s.block r, s.returns r) refl;
    start = λ _. s.start r;
    time = λ _. refl;
    turns = λ _. refl;
  }

  pub return_same : (task.depth ≡ 0 → ⊥) → SameTask (return_from task) (back p p.returns)
  return_same n = rw (sym (s.returns r) ∙ returns_return task.stack task.depth n)
      (record {
        running = refl;
        block = λ _. refl;
        returns = λ _. returns_set task.stack (task.depth - 1) (task.depth - 1) 0 (omega arith);
        start = λ _. s.start r;
        time = λ _. refl;
        turns = λ _. refl;
      })

  pub restart_same : SameTask (restarted task) (thread_at p.start p.start 0 0 [])
  restart_same = record { running = refl; block = λ _. s.start r; returns = λ _. refl; start = λ _. s.start r; time = λ _. refl; turns = λ _. refl }

  pub stop_same : (status : ℕ) → (status ≡ runs → ⊥) → SameTask (stopped status task) (off p)
  stop_same status n = record {
    running = ne_eqb status runs n;
    block = λ e. absurd (n e);
    returns = λ e. absurd (n e);
    start = λ e. absurd (n e);
    time = λ e. absurd (n e);
    turns = λ e. absurd (n e);
  }

pub start_same : (first u a : ℕ) (l : List Thread) → first ≡ (get_or l 0 idle).start → SameTask (start_anew first u a) (anew u a l)
start_same first u a l e =
    record { running = refl; block = λ _. refl; returns = λ _. refl; start = λ _. rw e refl; time = λ _. refl; turns = λ _. refl }

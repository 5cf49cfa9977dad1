-- Waits in document 01's words: when a pending wait ends, and the time of 5A.
use Prim.Native.Nat.{ℕ, ◌+◌, ◌-◌, ◌*◌, ◌%◌, ◌<◌, ◌≤◌}
use mathlib.Core.Path.{◌≡◌, refl, sym, ap, ◌∙◌}
use mathlib.Core.Bool.{Bool, true, false, cond}
use mathlib.Core.Logic.{◌↔◌}
use native.Mathlib.Omega.{arith}
use lib.Dec.{ltb}
use borrow.Author.Tests.{leb-false, ltb-false, ltb-true, ne_eqb}
use Rattle.limits.specs.Limits.{longest_wait}
use Rattle.drive.specs.Types.{type_637_plus, cycle_of}
use Rattle.logic.proofs.Choice.{clash}
use Rattle.state.specs.Wait.{due}
use Rattle.state.specs.GoodState.{GoodWait}
use Rattle.state.proofs.Wait.{due_exactly}
use Rattle.machine.specs.declared.Context.{Context}
use Rattle.machine.specs.Effect.{waits, time_of}
use Rattle.machine.specs.declared.Outcome.{Outcome}
use Rattle.machine.specs.declared.Outcome.TheVariants.{GoOn, Stay, Jump, Call, Return, Start, Restart, End, Halt}

-- before the 637+ the time of 5A is the greatest even number up to the content, from the 637+ on the content itself (DECISIONS R4)
pub record Rounded (model n time : ℕ) : Type 0 where
  pub low : time ≤ n
  pub near : n < time + 2
  pub even : model < type_637_plus → time % 2 ≡ 0
  pub same : type_637_plus ≤ model → time ≡ n

pub rounded : (model n : ℕ) → Rounded model n (time_of model n)
rounded model n = go (ltb model type_637_plus) refl
  where
    go : (t : Bool) → ltb model type_637_plus ≡ t → Rounded model n (cond t (n - n % 2) n)
    go true e = let l = ltb-true model type_637_plus e in
        record { low = omega arith; near = omega arith; even = λ _. omega arith; same = λ m. absurd (omega arith) }
    go false e = let l = ltb-false model type_637_plus e in record { low = omega arith; near = omega arith; even = λ m. absurd (omega arith); same = λ _. refl }

-- a step that finds a wait of T ms with k turns pending goes on exactly when k + 1 cycles are at least T
is_on : Outcome → Bool
is_on GoOn = true
is_on (Stay time turns) = false
is_on (Jump a) = false
is_on (Call a) = false
is_on Return = false
is_on (Start u a) = false
is_on Restart = false
is_on End = false
is_on (Halt q) = false

pub passes_exactly : (time : ℕ) (g : Context) → (g.time ≡ 0 → ⊥)
    → (waits time g ≡ GoOn) ↔ (1000 * g.time ≤ (g.turns + 1) * cycle_of g.drive.model)
unfolding is_on
passes_exactly time g n = rw (ne_eqb g.time 0 n) (go (due g.drive.model g.time (g.turns + 1)) refl)
  where
    go : (t : Bool) → due g.drive.model g.time (g.turns + 1) ≡ t
        → (cond t GoOn (Stay g.time (g.turns + 1)) ≡ GoOn) ↔ (1000 * g.time ≤ (g.turns + 1) * cycle_of g.drive.model)
    go true e = (λ _. (due_exactly g.drive.model g.time (g.turns + 1)).0 e, λ _. refl)
    go false e = (λ i. clash (sym (ap is_on i)), λ l. clash (sym ((due_exactly g.drive.model g.time (g.turns + 1)).1 l) ∙ e))

-- ---- good waits

-- a wait that begins is not over, and has a time
pub begins : (model time : ℕ) → time ≤ longest_wait → due model time 0 ≡ false → GoodWait model time 0
begins model time l e = let n = leb-false (1000 * time) (0 * cycle_of model) e in GoodWait.pending {time = time} {turns = 0} (omega arith) l e

-- one that is not over at the next turn stays pending
pub goes_on : (model time turns : ℕ) → GoodWait model time turns → (time ≡ 0 → ⊥) → due model time (turns + 1) ≡ false → GoodWait model time (turns + 1)
goes_on model _ _ GoodWait.none n e = absurd (n refl)
goes_on model time turns (GoodWait.pending p l d) n e = GoodWait.pending p l e

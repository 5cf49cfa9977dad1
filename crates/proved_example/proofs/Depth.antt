-- Change request 6 by its number: a state is at most 5 deep, so a buffer that is deeper gets 16 and stays as it is, and no run comes to one; and a state
-- may be 5 deep.
use Prim.Native.Nat.{ℕ, zero, suc, ◌<◌, ◌≤◌}
use native.Mathlib.Omega.{arith}
use mathlib.Core.Path.{◌≡◌, refl, ◌∙◌}
use mathlib.Core.Bool.{Bool, true, false}
use mathlib.Core.List.{List, [], ◌∷◌}
use lib.ListN.{length}
use Rattle.limits.specs.Limits.{bias, task_count, most_depth, inputs_length}
use Rattle.image_header.specs.GoodHeader.{GoodHeader, GoodLandings}
use Rattle.image_header.specs.declared.Header.{Header}
use Rattle.num_le.specs.LittleEndian.{Bytes}
use Rattle.state.specs.State.{runs, task_with, empty_stack, never_started, fresh_values, fresh, task_at}
use Rattle.state.specs.GoodState.{GoodTask, GoodWait, GoodState}
use Rattle.state.specs.declared.State.{State}
use Rattle.state.proofs.Fresh.{get_d_replicate, values_good, fresh_good}
use Rattle.state_layout.specs.Layout.{decoded, encoded}
use Rattle.state_layout.specs.IsState.{is_state}
use Rattle.state_layout.proofs.RoundTrip.{state_good, decode_encode, good_state}
use Rattle.machine.specs.Inputs.{Inputs}
use Rattle.bias_results.specs.Results.{no_state_answer}
use Rattle.bias.specs.Load.{load}
use Rattle.bias.specs.Step.{refuse_step, stepped}
use Rattle.bias.proofs.ByTest.{of_buffer, no_state_lem}
use Rattle.proved_demands.specs.Run.{buffer_after}
use Rattle.proved_demands.proofs.Apart.{block_fits_lem}
use Rattle.proved_demands.proofs.Demand.{demand}

module _ (b : List ℕ) (bytes : Bytes b) (t : ℕ) (l : t < task_count) where
  pub never_deeper : is_state b ≡ true → (task_at (decoded b) t).depth ≤ 5
  never_deeper e = ((state_good b bytes e).task t l).depth

  pub deeper_refused : 5 < (task_at (decoded b) t).depth → (image : List ℕ) (x : Inputs) → x.task < task_count → length x.levels ≡ inputs_length
      → stepped image b x ≡ refuse_step no_state_answer b
  deeper_refused deep image x h e = of_buffer image b x h e ∙ no_state_lem image b x (none (is_state b) refl)
    where
      none : (s : Bool) → is_state b ≡ s → is_state b ≡ false
      none true q = let d = never_deeper q in absurd (omega arith)
      none false q = q

-- a task that runs, after any list of steps from an accepted load
pub run_within : (image : List ℕ) (n : ℕ) (b : List ℕ) → Bytes image → (load image n b).verdict.number ≡ 0 → (xs : List Inputs) (t : ℕ) → t < task_count
    → (task_at (decoded (buffer_after image (load image n b).buffer xs)) t).status ≡ runs
    → (task_at (decoded (buffer_after image (load image n b).buffer xs)) t).depth ≤ 5
run_within image n b bytes z xs t l r = (block_fits_lem demand image n b bytes z xs t l r).1

-- ---- the other way: as load leaves it, but BIAS inside 5 calls, each of which returns to block 0

module _ (h : Header) (g : GoodHeader h) (landings : List ℕ) (l : GoodLandings h landings) where
  abbrev five_deep : State
  five_deep = record {
    values = fresh_values;
    header = h;
    landings = landings;
    tasks = task_with runs h.start h.start 5 empty_stack 0 0 ∷ never_started ∷ never_started ∷ [];
  }

  good : GoodState five_deep
  unfolding fresh
  good = record { header = g; landings = l; values = values_good; three = refl; task = tasks; first = refl }
    where
      tasks : (t : ℕ) → t < task_count → GoodTask h (task_at five_deep t)
      tasks zero below =
          record {
            status = omega arith;
            block = g.start;
            start = g.start;
            depth = omega arith;
            long = refl;
            under = λ i c. rw (get_d_replicate {A = ℕ} most_depth 0 i) g.count.0;
            above = λ i c. get_d_replicate {A = ℕ} most_depth 0 i;
            wait = GoodWait.none;
          }
      tasks (suc t) below = (fresh_good h g landings l).task (suc t) below

  -- its bytes are a state, of depth 5
  pub five_is_one : (is_state (encoded five_deep) ≡ true) × ((task_at (decoded (encoded five_deep)) bias).depth ≡ 5)
  five_is_one = (good_state five_deep good, rw (decode_encode five_deep good))

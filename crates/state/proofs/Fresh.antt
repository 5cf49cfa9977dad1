-- What load leaves is a good state.
use Prim.Native.Nat.{ℕ, zero, suc, ◌<◌}
use mathlib.Core.Path.{◌≡◌, refl}
use mathlib.Core.List.{List, [], ◌∷◌}
use native.Mathlib.Omega.{arith}
use lib.ListN.{get_or, replicate}
use lib.IntN.{pos}
use mir.Syntax.{w32}
use mir.Val.{SFits}
use Rattle.limits.specs.Limits.{task_count, most_depth, cells}
use Rattle.image_header.specs.GoodHeader.{GoodHeader, GoodLandings}
use Rattle.image_header.specs.declared.Header.{Header}
use Rattle.state.specs.State.{no_task, fresh, fresh_values, running, never_started}
use Rattle.state.specs.GoodState.{GoodWait, GoodTask, GoodValues, GoodState}

-- a list that holds one thing throughout holds it everywhere, where that is also what stands past its end
pub get_d_replicate : {A : Type 0} (n : ℕ) (x : A) (i : ℕ) → get_or (replicate n x) i x ≡ x
get_d_replicate zero x i = refl
get_d_replicate (suc n) x zero = refl
get_d_replicate (suc n) x (suc i) = get_d_replicate n x i

small_fits : SFits w32 (pos 0)
small_fits = record { sfits = omega arith }

pub values_good : GoodValues fresh_values
unfolding fresh_values
values_good = record {
  cells = record {
    variables = refl;
    signed = λ i. rw (get_d_replicate cells (pos 0) i) small_fits;
    flags = refl;
    flag = λ i. rw (get_d_replicate {A = ℕ} cells 0 i) (omega arith);
    outputs = refl;
    output = λ i. rw (get_d_replicate {A = ℕ} cells 0 i) (omega arith);
  };
  motion = record {
    axis = record {
      position = small_fits;
      speed = record { positive = omega arith; bounded = omega arith };
      acceleration = record { positive = omega arith; bounded = omega arith };
      deceleration = record { positive = omega arith; bounded = omega arith };
    };
    mark = omega arith;
  };
  notes = record { level = omega arith; moved = omega arith };
}

module _ (h : Header) (g : GoodHeader h) where
  started : GoodTask h (running h.start)
  started = record {
    status = omega arith;
    block = g.start;
    start = g.start;
    depth = omega arith;
    long = refl;
    under = λ i l. absurd (omega arith);
    above = λ i l. get_d_replicate {A = ℕ} most_depth 0 i;
    wait = GoodWait.none;
  }

  idle : GoodTask h never_started
  idle = record {
    status = omega arith;
    block = g.count.0;
    start = g.count.0;
    depth = omega arith;
    long = refl;
    under = λ i l. absurd (omega arith);
    above = λ i l. get_d_replicate {A = ℕ} most_depth 0 i;
    wait = GoodWait.none;
  }

  pub fresh_good : (landings : List ℕ) → GoodLandings h landings → GoodState (fresh h landings)
  unfolding fresh
  fresh_good landings k = record { header = g; landings = k; values = values_good; three = refl; task = tasks; first = refl }
    where
      tasks : (t : ℕ) → t < task_count → GoodTask h (get_or (running h.start ∷ never_started ∷ never_started ∷ []) t no_task)
      tasks zero l = started
      tasks (suc zero) l = idle
      tasks (suc (suc zero)) l = idle
      tasks (suc (suc (suc t))) l = absurd (omega arith)

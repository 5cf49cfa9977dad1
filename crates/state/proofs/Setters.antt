-- Good values stay good when a number in range is put into them.
use Prim.Native.Nat.{ℕ, zero, suc, ◌≤◌}
use mathlib.Core.Path.{◌∙◌}
use mathlib.Core.List.{List, [], ◌∷◌}
use lib.ListN.{get_or, set, length-set}
use lib.IntN.{ℤ, pos}
use mir.Syntax.{w32}
use mir.Val.{SFits}
use Rattle.limits.specs.Limits.{most_level, most_speed, most_ramp}
use Rattle.state.specs.State.{with_variable, with_flag, with_output, axis_of, with_axis, with_mark, with_notes}
use Rattle.state.specs.State.{with_position, with_speed, with_acceleration, with_deceleration}
use Rattle.state.specs.GoodState.{InRange, GoodAxis, GoodNotes, GoodValues}
use Rattle.state.specs.declared.Axis.{Axis}
use Rattle.state.specs.declared.Notes.{Notes}
use Rattle.state.specs.declared.Values.{Values}

-- what holds of a place and of what is stored, somewhere, holds of the place afterwards
pub kept_set : {A : Type 0} (P : A → Type 0) (l : List A) (i : ℕ) (x d : A) → P x → (j : ℕ) → P (get_or l j d) → P (get_or (set l i x) j d)
kept_set P [] i x d p j q = q
kept_set P (a ∷ l) zero x d p zero q = p
kept_set P (a ∷ l) zero x d p (suc j) q = q
kept_set P (a ∷ l) (suc i) x d p zero q = q
kept_set P (a ∷ l) (suc i) x d p (suc j) q = kept_set P l i x d p j q

module _ (v : Values) (g : GoodValues v) where
  -- ---- cells

  pub variable_good : (i : ℕ) (z : ℤ) → SFits w32 z → GoodValues (with_variable i z v)
  variable_good i z f = record {
    cells = record {
      variables = length-set v.cells.variables i z ∙ g.cells.variables;
      signed = λ j. kept_set (SFits w32) v.cells.variables i z (pos 0) f j (g.cells.signed j);
      flags = g.cells.flags;
      flag = g.cells.flag;
      outputs = g.cells.outputs;
      output = g.cells.output;
    };
    motion = g.motion;
    notes = g.notes;
  }

  pub flag_good : (i x : ℕ) → x ≤ most_level → GoodValues (with_flag i x v)
  flag_good i x l = record {
    cells = record {
      variables = g.cells.variables;
      signed = g.cells.signed;
      flags = length-set v.cells.flags i x ∙ g.cells.flags;
      flag = λ j. kept_set (λ n. n ≤ most_level) v.cells.flags i x 0 l j (g.cells.flag j);
      outputs = g.cells.outputs;
      output = g.cells.output;
    };
    motion = g.motion;
    notes = g.notes;
  }

  pub output_good : (i x : ℕ) → x ≤ most_level → GoodValues (with_output i x v)
  output_good i x l = record {
    cells = record {
      variables = g.cells.variables;
      signed = g.cells.signed;
      flags = g.cells.flags;
      flag = g.cells.flag;
      outputs = length-set v.cells.outputs i x ∙ g.cells.outputs;
      output = λ j. kept_set (λ n. n ≤ most_level) v.cells.outputs i x 0 l j (g.cells.output j);
    };
    motion = g.motion;
    notes = g.notes;
  }

  -- ---- motion

  -- the axis of a number is good
  pub good_axis : (n : ℕ) → GoodAxis (axis_of n v)
  good_axis n = g.motion.axis

  pub axis_good : (n : ℕ) (a : Axis) → GoodAxis a → GoodValues (with_axis n a v)
  axis_good n a k = record { cells = g.cells; motion = record { axis = k; mark = g.motion.mark }; notes = g.notes }

  pub mark_good : (m : ℕ) → m ≤ most_level → GoodValues (with_mark m v)
  mark_good m l = record { cells = g.cells; motion = record { axis = g.motion.axis; mark = l }; notes = g.notes }

  -- ---- notes

  pub notes_good : (n : Notes) → GoodNotes n → GoodValues (with_notes n v)
  notes_good n l = record { cells = g.cells; motion = g.motion; notes = l }

module _ (a : Axis) (g : GoodAxis a) where
  pub position_good : (z : ℤ) → SFits w32 z → GoodAxis (with_position z a)
  position_good z f = record { position = f; speed = g.speed; acceleration = g.acceleration; deceleration = g.deceleration }

  pub speed_good : (n : ℕ) → InRange most_speed n → GoodAxis (with_speed n a)
  speed_good n r = record { position = g.position; speed = r; acceleration = g.acceleration; deceleration = g.deceleration }

  pub acceleration_good : (n : ℕ) → InRange most_ramp n → GoodAxis (with_acceleration n a)
  acceleration_good n r = record { position = g.position; speed = g.speed; acceleration = r; deceleration = g.deceleration }

  pub deceleration_good : (n : ℕ) → InRange most_ramp n → GoodAxis (with_deceleration n a)
  deceleration_good n r = record { position = g.position; speed = g.speed; acceleration = g.acceleration; deceleration = r }

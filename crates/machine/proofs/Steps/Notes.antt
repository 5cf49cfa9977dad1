-- What a step leaves of the values: one that is refused leaves all as it is, any other takes the notes of BIAS as the reference machine does; and the note of
-- a move is what the steps before it say.
use Rattle.std.specs.Prelude.{Option, Some, None}
use Prim.Native.Nat.{ℕ, ◌≤◌}
use mathlib.Core.Path.{◌≡◌, refl, ap, ◌∙◌}
use mathlib.Core.Bool.{Bool, true, false, ◌&&◌, not, cond}
use lib.Dec.{eqb}
use borrow.Author.Tests.{ne_eqb}
use Rattle.limits.specs.Limits.{bias, most_level}
use Rattle.walk_point.specs.declared.Point.{Point}
use Rattle.state.specs.State.{with_notes}
use Rattle.state.specs.GoodState.{GoodNotes, GoodValues}
use Rattle.state.proofs.Setters.{notes_good}
use Rattle.state.specs.declared.Notes.{Notes}
use Rattle.state.specs.declared.Task.{Task}
use Rattle.state.specs.declared.Values.{Values}
use Rattle.state.specs.declared.State.{State}
use Rattle.machine.specs.Inputs.{Inputs, level}
use Rattle.machine.specs.Effect.{bit}
use Rattle.machine.specs.Engine.{is_move, is_halt, moved_after, notes_after, answer_to, performed, refuse}
use Rattle.machine.specs.Reference.{moving, move_note, keeps}
use Rattle.machine.specs.StepRule.{executed, level_noted}
use Rattle.machine.specs.Answers.{Answer}
use Rattle.machine.specs.declared.Cause.{Cause}
use Rattle.machine.specs.declared.Effect.{Effect}
use Rattle.machine.specs.declared.Request.{Request}
use Rattle.machine.specs.declared.Request.TheVariants.{MoveTo, MoveBy, Forward, Backward, Stop}
use Rattle.machine.specs.declared.Outcome.{Outcome}
use Rattle.machine.specs.declared.Outcome.TheVariants.{GoOn, Stay, Jump, Call, Return, Start, Restart, End, Halt}
use Rattle.machine.proofs.Rows.InRange.{bit_level, level_level}

-- ---- the engine and the reference machine note alike

moving_is : (m : Option Request) → bit (is_move m) ≡ moving m
moving_is None = refl
moving_is (Some (MoveTo axis)) = refl
moving_is (Some (MoveBy axis)) = refl
moving_is (Some (Forward axis)) = refl
moving_is (Some (Backward axis)) = refl
moving_is (Some (Stop mode deceleration)) = refl

moved_is : (o : Outcome) (m : Option Request) (before : ℕ) → moved_after o m before ≡ move_note o before (moving m)
moved_is GoOn m before = moving_is m
moved_is (Stay time turns) m before = moving_is m
moved_is (Jump a) m before = moving_is m
moved_is (Call a) m before = moving_is m
moved_is Return m before = moving_is m
moved_is (Start u a) m before = moving_is m
moved_is Restart m before = moving_is m
moved_is End m before = moving_is m
moved_is (Halt q) m before = refl

-- where the command left the notes of before
pub noted_alike : (s : State) (x : Inputs) (task : Task) (e : Effect) (before : Notes) → e.values.notes ≡ before
    → (performed s x task e).state.values ≡ keeps x.task x.start before e
unfolding performed
noted_alike s x task e before i =
    ap (λ (n : Notes). with_notes (notes_after x.task x.start e.outcome e.request n) e.values) i
    ∙ ap (λ (k : ℕ). with_notes (cond (eqb x.task 0) (record { level = level x.start; moved = k }) before) e.values)
    (moved_is e.outcome e.request before.moved)

pub refused_alike : (s : State) (a : Answer) → (refuse s a).state ≡ s
refused_alike s a = refl

-- ---- the note of a move and what came before

-- a halt leaves the note of a move
pub level_noted_lem : (t start : ℕ) (q : Cause) (m : Option Request) (v : Values) → with_notes (notes_after t start (Halt q) m v.notes) v ≡ level_noted t start v
level_noted_lem t start q m v = go (eqb t bias)
  where
    go : (b : Bool) → with_notes (cond b (record { level = level start; moved = v.notes.moved }) v.notes) v ≡ record {
      cells = v.cells;
      motion = v.motion;
      notes = record { level = cond b (level start) v.notes.level; moved = v.notes.moved };
    }
    go true = refl
    go false = refl

-- a command that is not executed halts its task
executed_is_no_halt : (o : Outcome) (p : Point) → executed (answer_to o p) ≡ not (is_halt o)
executed_is_no_halt GoOn p = refl
executed_is_no_halt (Stay time turns) p = refl
executed_is_no_halt (Jump a) p = refl
executed_is_no_halt (Call a) p = refl
executed_is_no_halt Return p = refl
executed_is_no_halt (Start u a) p = refl
executed_is_no_halt Restart p = refl
executed_is_no_halt End p = refl
executed_is_no_halt (Halt q) p = refl

-- after a command that left the notes alone
pub moved_told : (t start : ℕ) (e : Effect) (v : Values) (p : Point) (was : Bool) → e.values.notes ≡ v.notes → v.notes.moved ≡ bit was
    → (notes_after t start e.outcome e.request e.values.notes).moved
    ≡ bit (cond (eqb t bias && executed (answer_to e.outcome p)) (is_move e.request) was)
moved_told t start e v p was i j = rw (executed_is_no_halt e.outcome p) (go (eqb t bias) (is_halt e.outcome))
  where
    before : e.values.notes.moved ≡ bit was
    before = ap (λ (n : Notes). n.moved) i ∙ j

    go : (b h : Bool)
        → (cond b (record { level = level start; moved = cond h e.values.notes.moved (bit (is_move e.request)) }) e.values.notes).moved
        ≡ bit (cond (b && not h) (is_move e.request) was)
    go true true = before
    go true false = refl
    go false h = before

-- another task's step leaves the notes
pub notes_left : (t start : ℕ) (o : Outcome) (m : Option Request) (before : Notes) → (t ≡ bias → ⊥) → notes_after t start o m before ≡ before
notes_left t start o m before n = rw (ne_eqb t bias n) refl

pub bit_clear : (b : Bool) → eqb (bit b) 0 ≡ not b
bit_clear true = refl
bit_clear false = refl

-- ---- what is noted is good

pub noted_good : (t start : ℕ) (o : Outcome) (m : Option Request) (v : Values) → GoodValues v → GoodValues (with_notes (notes_after t start o m v.notes) v)
noted_good t start o m v g = notes_good v g _ (go (eqb t bias))
  where
    moved : (h : Bool) → cond h v.notes.moved (bit (is_move m)) ≤ most_level
    moved true = g.notes.moved
    moved false = bit_level (is_move m)

    go : (b : Bool) → GoodNotes (cond b (record { level = level start; moved = moved_after o m v.notes.moved }) v.notes)
    go true = record { level = level_level start; moved = moved (is_halt o) }
    go false = g.notes

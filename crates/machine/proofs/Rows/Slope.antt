-- When a move starts, in document 01's words: the start mark stands, or the start input is high and was low at the preceding BIAS step. Then, and only then,
-- a move is asked for. And what a 58 comes to.
use Rattle.std.specs.Prelude.{Option, Some, None}
use Prim.Native.Nat.{ℕ}
use mathlib.Core.Path.{◌≡◌, refl, sym, ◌∙◌}
use mathlib.Core.Bool.{Bool, true, false, ◌&&◌, ◌||◌, not, cond}
use mathlib.Core.Logic.{◌⊎◌, inl, inr, ◌↔◌}
use mathlib.Core.List.{List}
use lib.Dec.{eqb}
use borrow.Author.Tests.{eqb-true, eqb-false, eq-eqb, ne_eqb}
use Rattle.logic.proofs.Choice.{clash, or_is, not_is, test}
use Rattle.command_table.specs.Rows.{row_of}
use Rattle.command_operands.specs.declared.Command.{Command}
use Rattle.state.specs.State.{first_axis, axis_of, with_mark}
use Rattle.state.specs.declared.Axis.{Axis}
use Rattle.state.specs.declared.Values.{Values}
use Rattle.machine.specs.declared.Context.{Context}
use Rattle.machine.specs.Effect.{effect, flows, started, moves, arrived, effect_in, effect_of}
use Rattle.machine.specs.Engine.{is_move}
use Rattle.machine.specs.StepRule.{is_move_code, asks_motion}
use Rattle.machine.specs.declared.Effect.{Effect}
use Rattle.machine.specs.declared.Request.{Request}
use Rattle.machine.specs.declared.Request.TheVariants.{MoveTo, MoveBy, Forward, Backward, Stop}
use Rattle.machine.specs.declared.Outcome.TheVariants.{GoOn, Stay}
use Rattle.machine.proofs.Rows.EveryLaw.{every_law}

-- the mark, or the start input and the level noted before
abbrev pub Starts : Context → Values → Type 0
Starts g v = (v.motion.mark ≡ 0 → ⊥) ⊎ ((g.start ≡ 0 → ⊥) × (v.notes.level ≡ 0))

starts_for : (g : Context) (v : Values) → started g v.motion v.notes ≡ true → Starts g v
starts_for g v = to (eqb v.motion.mark 0) refl (eqb g.start 0) refl (eqb v.notes.level 0) refl
  where
    to : (a : Bool) → eqb v.motion.mark 0 ≡ a → (b : Bool) → eqb g.start 0 ≡ b → (c : Bool) → eqb v.notes.level 0 ≡ c
        → (not a || (not b && c)) ≡ true → Starts g v
    to false i b j c k e = inl (eqb-false v.motion.mark 0 i)
    to true i false j true k e = inr (eqb-false g.start 0 j, eqb-true v.notes.level 0 k)
    to true i false j false k e = clash (sym e)
    to true i true j c k e = clash (sym e)

pub started_exactly : (g : Context) (v : Values) → (started g v.motion v.notes ≡ true) ↔ Starts g v
started_exactly g v = (starts_for g v, from)
  where
    from : Starts g v → started g v.motion v.notes ≡ true
    from (inl n) = rw (ne_eqb v.motion.mark 0 n) refl
    from (inr (n, e)) = rw (ne_eqb g.start 0 n, eq-eqb v.notes.level 0 e) (always (eqb v.motion.mark 0))
      where
        always : (a : Bool) → (not a || true) ≡ true
        always true = refl
        always false = refl

-- ---- a move is asked for exactly by a move that starts

move_asks : (m : Option Request) → is_move m ≡ true → asks_motion m ≡ true
move_asks None e = clash (sym e)
move_asks (Some (MoveTo axis)) e = refl
move_asks (Some (MoveBy axis)) e = refl
move_asks (Some (Forward axis)) e = refl
move_asks (Some (Backward axis)) e = refl
move_asks (Some (Stop mode deceleration)) e = clash (sym e)

module _ (inputs ls : List ℕ) (g : Context) (c : Command) (v : Values) where
  abbrev e : Effect
  e = effect_of inputs ls g c v

  -- a command of one of the four codes moves the axis in its own way, or waits
  record ByMove : Type 0 where
    kind : Axis → Request
    move : (a : Axis) → is_move (Some (kind a)) ≡ true
    effect : e ≡ moves kind g c v

  by_move : is_move_code c.code ≡ true → ByMove
  unfolding effect_of effect_in
  by_move m = first (or_is (eqb c.code 0x00) _ m)
    where
      third : (eqb c.code 0x03 ≡ true) ⊎ (eqb c.code 0x04 ≡ true) → ByMove
      third (inl i) = record { kind = Forward; move = λ _. refl; effect = rw (eqb-true c.code 0x03 i) refl }
      third (inr i) = record { kind = Backward; move = λ _. refl; effect = rw (eqb-true c.code 0x04 i) refl }

      second : (eqb c.code 0x01 ≡ true) ⊎ ((eqb c.code 0x03 || eqb c.code 0x04) ≡ true) → ByMove
      second (inl i) = record { kind = MoveBy; move = λ _. refl; effect = rw (eqb-true c.code 0x01 i) refl }
      second (inr i) = third (or_is (eqb c.code 0x03) (eqb c.code 0x04) i)

      first : (eqb c.code 0x00 ≡ true) ⊎ ((eqb c.code 0x01 || (eqb c.code 0x03 || eqb c.code 0x04)) ≡ true) → ByMove
      first (inl i) = record { kind = MoveTo; move = λ _. refl; effect = rw (eqb-true c.code 0x00 i) refl }
      first (inr i) = second (or_is (eqb c.code 0x01) (eqb c.code 0x03 || eqb c.code 0x04) i)

  -- of a command that is carried: a move is asked for exactly at the code of a move, where it starts
  pub moves_exactly : (row_of c.code).carried ≡ true → (is_move e.request ≡ true) ↔ ((is_move_code c.code ≡ true) × Starts g v)
  moves_exactly n = (λ i. let l = (every_law inputs ls g c v n).move i in (l.0, starts_for g v l.1), λ k. from (by_move k.0) ((started_exactly g v).1 k.1))
    where
      from : ByMove → started g v.motion v.notes ≡ true → is_move e.request ≡ true
      from b s = rw (b.effect, s) (b.move (axis_of first_axis v))

  -- so where a motion is asked for at such a code
  pub move_is : (row_of c.code).carried ≡ true → is_move e.request ≡ (is_move_code c.code && asks_motion e.request)
  move_is n =
      test (is_move_code c.code) (λ i. rw i (same (by_move i)))
      (λ i. rw i (not_is (is_move e.request) (λ k. clash (sym ((moves_exactly n).0 k).0 ∙ i))))
    where
      same : ByMove → is_move e.request ≡ asks_motion e.request
      same b = rw b.effect (go (started g v.motion v.notes))
        where
          go : (t : Bool) → is_move (cond t (effect (with_mark 0 v) (Some (b.kind (axis_of first_axis v))) GoOn) (flows v (Stay 0 0))).request
              ≡ asks_motion (cond t (effect (with_mark 0 v) (Some (b.kind (axis_of first_axis v))) GoOn) (flows v (Stay 0 0))).request
          go true = b.move (axis_of first_axis v) ∙ sym (move_asks (Some (b.kind (axis_of first_axis v))) (b.move (axis_of first_axis v)))
          go false = refl

  -- ---- 58

  pub position_outcome : c.code ≡ 0x58 → e.outcome ≡ cond (arrived g v.notes) GoOn (Stay 0 0)
  unfolding effect_of effect_in
  position_outcome i = rw i refl

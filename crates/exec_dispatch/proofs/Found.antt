-- A `match` on a command's code finds the effect of its row: an arm is the row of its code, and a code of no arm is in no row. Where a command does one of two
-- things, the effect of one of two actions is one of two effects.
use Rattle.std.specs.Prelude.{Some, ℤ, Option, None}
use Prim.Native.Nat.{ℕ}
use mathlib.Core.Path.{◌≡◌, refl, sym, ap, ◌∙◌}
use mathlib.Core.Bool.{Bool, true, false, ◌||◌, cond}
use mathlib.Core.List.{List}
use Rattle.limits.specs.Limits.{most_time}
use Rattle.logic.proofs.Lookup.{NoRow, looked_past}
use Rattle.command_operands.specs.declared.Command.{Command}
use Rattle.state.specs.State.{first_axis}
use Rattle.state.specs.declared.Axis.{Axis}
use Rattle.state.specs.declared.Change.TheVariants.{Parameters, Mark}
use Rattle.state.specs.declared.Values.{Values}
use Rattle.machine.specs.Effect.{CommandEffect, EffectRow, nothing, effect_rows, effect_in, effect_of, is_set, variable, within, natural, time_of, started, waits}
use Rattle.machine.specs.Effect.{moves, parameter, waits_variable, divides, is_landing, lands}
use Rattle.machine.specs.declared.Cause.TheVariants.{BadContent, NoLanding}
use Rattle.machine.specs.declared.Context.{Context}
use Rattle.machine.specs.declared.Outcome.{Outcome}
use Rattle.machine.specs.declared.Outcome.TheVariants.{Stay}
use Rattle.machine.specs.declared.Request.{Request}
use Rattle.exec_action.specs.Action.{acted, asking, setting, flowing, halting, dividing, starting, loading, waiting, landing}
use Rattle.exec_action.specs.declared.Action.{Action}

either : (t : Bool) (a b : Action) (v : Values) → acted (cond t a b) v ≡ cond t (acted a v) (acted b v)
either true a b v = refl
either false a b v = refl

quotient_acted : (c : Command) (q : Option ℤ) (v : Values) → acted (dividing c q) v ≡ divides c q v
unfolding divides
quotient_acted c (Some z) v = refl
quotient_acted c None v = refl

module _ (inputs ls : List ℕ) (g : Context) (c : Command) (v : Values) where
  -- an arm whose action a has the effect of the row of k
  pub found : {k : ℕ} {r a : Action} → c.code ≡ k → r ≡ a → acted a v ≡ effect_in (effect_rows inputs ls) k g c v → acted r v ≡ effect_of inputs ls g c v
  unfolding effect_of
  found i e h = ap (λ (b : Action). acted b v) e ∙ h ∙ ap (λ (m : ℕ). effect_in (effect_rows inputs ls) m g c v) (sym i)

  -- a code of no arm
  pub missed : {r a : Action} → NoRow (λ (r : EffectRow). r.code) (Unit {0}) (effect_rows inputs ls) c.code → r ≡ a → acted a v ≡ nothing g c v
      → acted r v ≡ effect_of inputs ls g c v
  unfolding effect_of effect_in
  missed m e h =
      ap (λ (b : Action). acted b v) e ∙ h ∙ ap (λ (d : CommandEffect). d g c v)
      (sym (looked_past (λ (r : EffectRow). r.code) (λ r. r.effect) nothing effect_in (λ n. refl) (λ r rs n. refl) (effect_rows inputs ls) c.code m))

  -- arms that do one of two things
  pub found_move : (kind : Axis → Request) {k : ℕ} {r : Action} → c.code ≡ k → r ≡ starting g v.motion v.notes (kind v.motion.axis)
      → moves kind g c v ≡ effect_in (effect_rows inputs ls) k g c v → acted r v ≡ effect_of inputs ls g c v
  found_move kind i e h = found i e (either (started g v.motion v.notes) (asking (Some (Mark 0)) (Some (kind v.motion.axis))) (flowing (Stay 0 0)) v ∙ h)

  pub found_parameter : (most : ℕ) (put : ℕ → Axis → Axis) {k : ℕ} {r : Action} → c.code ≡ k → r ≡ loading most put (variable v c.x) v.motion.axis
      → parameter most put g c v ≡ effect_in (effect_rows inputs ls) k g c v → acted r v ≡ effect_of inputs ls g c v
  found_parameter most put i e h =
      found i e
      (either (within 1 most (variable v c.x)) (setting (Some (Parameters first_axis (put (natural (variable v c.x)) v.motion.axis))))
      (halting BadContent) v ∙ h)

  pub found_wait : {k : ℕ} {r : Action} → c.code ≡ k → r ≡ waiting g (variable v c.x)
      → waits_variable g c v ≡ effect_in (effect_rows inputs ls) k g c v → acted r v ≡ effect_of inputs ls g c v
  found_wait i e h =
      found i e
      (either (is_set g.time || within 0 most_time (variable v c.x)) (flowing (waits (time_of g.drive.model (natural (variable v c.x))) g))
      (halting BadContent) v ∙ h)

  pub found_quotient : (q : Option ℤ) {k : ℕ} {r : Action} → c.code ≡ k → r ≡ dividing c q → divides c q v ≡ effect_in (effect_rows inputs ls) k g c v
      → acted r v ≡ effect_of inputs ls g c v
  found_quotient q i e h = found i e (quotient_acted c q v ∙ h)

  pub found_landing : (to : ℕ → Outcome) {k : ℕ} {r : Action} → c.code ≡ k → r ≡ landing ls to (variable v c.x)
      → lands ls to g c v ≡ effect_in (effect_rows inputs ls) k g c v → acted r v ≡ effect_of inputs ls g c v
  found_landing to i e h =
      found i e (either (is_landing ls (variable v c.x)) (flowing (to (natural (variable v c.x)))) (halting NoLanding) v ∙ h)

-- What 56 and 5B come to: the landing block that the variable holds, or 22.
use Prim.Native.Nat.{ℕ}
use mathlib.Core.Path.{◌≡◌, refl}
use mathlib.Core.Bool.{Bool, true, false, cond}
use mathlib.Core.List.{List}
use Rattle.limits.specs.Limits.{bias}
use Rattle.command_operands.specs.declared.Command.{Command}
use Rattle.state.specs.declared.Values.{Values}
use Rattle.machine.specs.declared.Context.{Context}
use Rattle.machine.specs.Effect.{flows, halts, natural, variable, is_landing, effect_in, effect_of}
use Rattle.machine.specs.declared.Cause.TheVariants.{NoLanding}
use Rattle.machine.specs.declared.Outcome.{Outcome}
use Rattle.machine.specs.declared.Outcome.TheVariants.{Jump, Start, Halt}

module _ (inputs ls : List ℕ) (g : Context) (c : Command) (v : Values) where
  -- a choice of flows is a flow of the choice
  chosen : (t : Bool) (o : Outcome) → (cond t (flows v o) (halts NoLanding v)).outcome ≡ cond t o (Halt NoLanding)
  chosen true o = refl
  chosen false o = refl

  pub jump_outcome : c.code ≡ 0x56
      → (effect_of inputs ls g c v).outcome ≡ cond (is_landing ls (variable v c.x)) (Jump (natural (variable v c.x))) (Halt NoLanding)
  unfolding effect_of effect_in
  jump_outcome e = rw e (chosen (is_landing ls (variable v c.x)) (Jump (natural (variable v c.x))))

  pub start_outcome : c.code ≡ 0x5B
      → (effect_of inputs ls g c v).outcome ≡ cond (is_landing ls (variable v c.x)) (Start bias (natural (variable v c.x))) (Halt NoLanding)
  unfolding effect_of effect_in
  start_outcome e = rw e (chosen (is_landing ls (variable v c.x)) (Start bias (natural (variable v c.x))))

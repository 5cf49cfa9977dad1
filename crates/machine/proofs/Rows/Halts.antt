-- A command halts its task exactly for its reason: a reason computes its row to a halt, and by the law of every row each halt has a reason.
use Prim.Native.Nat.{ℕ}
use mathlib.Core.Path.{◌≡◌, subst}
use mathlib.Core.Bool.{true}
use mathlib.Core.Logic.{◌↔◌}
use mathlib.Core.List.{List}
use Rattle.command_table.specs.Rows.{row_of}
use Rattle.num_arith.specs.Ops.{quotient}
use Rattle.command_operands.specs.declared.Command.{Command}
use Rattle.state.specs.declared.Values.{Values}
use Rattle.machine.specs.declared.Context.{Context}
use Rattle.machine.specs.Effect.{variable, divides, effect_in, effect_of}
use Rattle.machine.specs.StepRule.{Reason}
use Rattle.machine.specs.declared.Cause.{Cause}
use Rattle.machine.specs.declared.Outcome.TheVariants.{Halt}
use Rattle.machine.proofs.Rows.Forms.{Halting, Ranged, none_landing}
use Rattle.machine.proofs.Rows.EveryLaw.{every_law}

module _ (inputs ls : List ℕ) (g : Context) (c : Command) (v : Values) where
  pub halts_for : {q : Cause} → Reason ls c v g.time q → (effect_of inputs ls g c v).outcome ≡ Halt q
  unfolding effect_of effect_in divides quotient
  halts_for (Reason.divisor e z) = rw (e, z)
  halts_for (Reason.speed e r) = rw (e, r)
  halts_for (Reason.acceleration e r) = rw (e, r)
  halts_for (Reason.deceleration e r) = rw (e, r)
  halts_for (Reason.waiting e t r) = rw (e, t, r)
  halts_for (Reason.jumping e n) = rw (e, none_landing ls (variable v c.x) n)
  halts_for (Reason.starting e n) = rw (e, none_landing ls (variable v c.x) n)

  -- of a command that is carried, with operands in range
  pub halts_exactly : (row_of c.code).carried ≡ true → (count : ℕ) → Ranged count c → (q : Cause)
      → ((effect_of inputs ls g c v).outcome ≡ Halt q) ↔ Reason ls c v g.time q
  halts_exactly carried count ranged q =
      (λ e. subst (Halting ls c v g.time) e ((every_law inputs ls g c v carried).outcome.halt count ranged), λ r. halts_for r)

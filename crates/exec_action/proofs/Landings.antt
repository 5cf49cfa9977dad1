-- The landing block looked for in a list: what it comes to is what the rows of 56 and 5B say.
use Rattle.std.proofs.Common.{◌≡◌, ℕ, Bool, true, false, ◌||◌, cond, List, [], ◌∷◌, Option, Some, ℤ, pos, negsuc, refl, sym, ap, ◌∙◌, eqb-true}
use Rattle.logic.proofs.Choice.{clash}
use Rattle.num_arith.specs.Ops.{eq_z}
use Rattle.machine.specs.Effect.{natural, is_landing}
use Rattle.machine.specs.declared.Cause.TheVariants.{NoLanding}
use Rattle.machine.specs.declared.Outcome.{Outcome}
use Rattle.machine.specs.declared.Outcome.TheVariants.{Halt}
use Rattle.std.specs.Option.{option_map_or}
use Rattle.exec_action.specs.Action.{flowing, halting, landing_of, landing}
use Rattle.exec_action.specs.declared.Action.{Action}

-- what a task does with what was found: 22 where nothing was
abbrev pub on_to : (ℕ → Outcome) → Option ℕ → Outcome
on_to to found = option_map_or to found (Halt NoLanding)

named : (z : ℤ) (a : ℕ) → eq_z z (pos a) ≡ true → natural z ≡ a
named (pos n) a e = eqb-true n a e
named (negsuc n) a e = clash (sym e)

pub landing_found : (to : ℕ → Outcome) (ls : List ℕ) (z : ℤ) → flowing (on_to to (landing_of ls z)) ≡ landing ls to z
unfolding landing_of
landing_found to [] z = refl
landing_found to (a ∷ ls) z = go (eq_z z (pos a)) refl (landing_found to ls z)
  where
    go : (t : Bool) → eq_z z (pos a) ≡ t → flowing (on_to to (landing_of ls z)) ≡ landing ls to z
        → flowing (on_to to (cond t (Some a) (landing_of ls z))) ≡ cond (t || is_landing ls z) (flowing (to (natural z))) (halting NoLanding)
    go true e later = ap (λ (n : ℕ). flowing (to n)) (sym (named z a e))
    go false e later = later

-- what a command does with the landing block that was found
pub landing_done : {act : Action} {o : Outcome} {r : Option ℕ} {y z : ℤ} (to : ℕ → Outcome) (ls : List ℕ)
    → act ≡ flowing o → o ≡ on_to to r → r ≡ landing_of ls y → y ≡ z → act ≡ landing ls to z
landing_done {z = z} to ls a e i j = a ∙ ap flowing (e ∙ ap (on_to to) (i ∙ ap (landing_of ls) j)) ∙ landing_found to ls z

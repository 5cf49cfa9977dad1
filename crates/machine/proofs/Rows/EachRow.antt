-- A statement proved of every row of effects holds of the effect of every code that is carried, since each carried code has a row.
use Prim.Native.Nat.{ℕ}
use mathlib.Core.Path.{◌≡◌, refl, sym, ap, ◌∙◌}
use mathlib.Core.Bool.{Bool, true, false, ◌||◌, cond}
use mathlib.Core.Logic.{⊎_elim}
use mathlib.Core.List.{List, [], ◌∷◌}
use lib.Dec.{T, eqb}
use borrow.Author.Tests.{eqb-true}
use Rattle.logic.proofs.Choice.{clash}
use Rattle.command_table.specs.Rows.{rows, row_in, row_of, no_row}
use Rattle.command_table.specs.declared.Row.{Row as Columns}
use Rattle.command_table.proofs.EveryRow.{every, every_row}
use Rattle.command_operands.specs.declared.Command.{Command}
use Rattle.machine.specs.Effect.{CommandEffect, EffectRow, effect_in, effect_rows}
use Rattle.logic.proofs.Lists.{All}

abbrev has : List EffectRow → ℕ → Bool
has [] code = false
has (r ∷ rs) code = eqb code r.code || has rs code

-- what is to be shown of an effect, for commands of its code
abbrev pub Of : (Command → CommandEffect → Type 0) → EffectRow → Type 0
Of P r = (c : Command) → c.code ≡ r.code → P c r.effect

effect_in_lem : (P : Command → CommandEffect → Type 0) (rs : List EffectRow) → All (Of P) rs → (c : Command) → has rs c.code ≡ true → P c (effect_in rs c.code)
unfolding effect_in
effect_in_lem P [] All.end c e = clash (sym e)
effect_in_lem P (r ∷ rs) (All.◌&◌ first rest) c e = go (eqb c.code r.code) refl e (effect_in_lem P rs rest c)
  where
    go : (t : Bool) → eqb c.code r.code ≡ t → (t || has rs c.code) ≡ true → (has rs c.code ≡ true → P c (effect_in rs c.code))
        → P c (cond t r.effect (effect_in rs c.code))
    go true i k later = first c (eqb-true c.code r.code i)
    go false i k later = later k

-- each code that is carried has a row of effects
module _ (inputs ls : List ℕ) where
  carried : ℕ → Columns → Bool
  carried code r = has (effect_rows inputs ls) code

  all_carried : T (every carried rows)
  unfolding carried rows
  all_carried = tt

  pub effect_of_lem : (P : Command → CommandEffect → Type 0) → All (Of P) (effect_rows inputs ls) → (c : Command) → (row_of c.code).carried ≡ true
      → P c (effect_in (effect_rows inputs ls) c.code)
  unfolding row_of carried
  effect_of_lem P all c n =
      ⊎_elim (λ (e : row_in rows c.code ≡ no_row). clash (sym n ∙ ap (λ (r : Columns). r.carried) e)) (λ h. effect_in_lem P (effect_rows inputs ls) all c h)
      (every_row carried rows all_carried c.code)

-- The law of the foreign 51 (DECISIONS R2): it is a 51 whose mode is not 0 and names another task. That 51 alone has the flow of an end is one
-- computation over the rows.
use Prim.Native.Nat.{ℕ, ◌+◌}
use mathlib.Core.Path.{◌≡◌, refl, sym, ap, subst, ◌∙◌}
use mathlib.Core.Bool.{Bool, true, not}
use mathlib.Core.Logic.{⊎_elim, ◌↔◌}
use lib.Dec.{T, eqb}
use borrow.Author.Tests.{eqb-true, eqb-false, eq-eqb, ne_eqb, not-true}
use Rattle.logic.proofs.Choice.{clash, both}
use Rattle.command_table.specs.Rows.{is_ending, no_row, rows, row_in, row_of}
use Rattle.command_table.specs.declared.Row.{Row}
use Rattle.command_table.proofs.EveryRow.{every, every_row, same_test, same_test_is}
use Rattle.command_operands.specs.declared.Command.{Command}
use Rattle.walk_flow.specs.Permission.{foreign}

only51 : ℕ → Row → Bool
only51 code r = same_test (is_ending r.flow) (eqb code 0x51)

all_rows : T (every only51 rows)
unfolding only51 rows
all_rows = tt

ends_51 : is_ending (row_in rows 0x51).flow ≡ true
unfolding row_in rows
ends_51 = refl

-- the flow of an end is that of 51
ends_is : (code : ℕ) → is_ending (row_of code).flow ≡ eqb code 0x51
unfolding row_of only51
ends_is code = ⊎_elim none (λ e. same_test_is _ _ (subst T (sym e) tt)) (every_row only51 rows all_rows code)
  where
    unlike : row_in rows code ≡ no_row → code ≡ 0x51 → ⊥
    unlike n e = clash (sym ends_51 ∙ ap (λ (k : ℕ). is_ending (row_in rows k).flow) (sym e) ∙ ap (λ (r : Row). is_ending r.flow) n)

    none : row_in rows code ≡ no_row → is_ending (row_in rows code).flow ≡ eqb code 0x51
    none n = ap (λ (r : Row). is_ending r.flow) n ∙ sym (ne_eqb code 0x51 (unlike n))

-- a 51 of another task's mode, in words
pub record EndsAnother (task : ℕ) (c : Command) : Type 0 where
  pub code : c.code ≡ 0x51
  pub mode : c.x ≡ 0 → ⊥
  pub other : c.x ≡ task + 1 → ⊥

pub foreign_exactly : (task : ℕ) (c : Command) → (foreign task c ≡ true) ↔ EndsAnother task c
unfolding foreign
foreign_exactly task c = (to, from)
  where
    to : foreign task c ≡ true → EndsAnother task c
    to e =
        let a = both (is_ending (row_of c.code).flow) _ e in
        let b = both (not (eqb c.x 0)) _ a.1 in
        record {
          code = eqb-true c.code 0x51 (sym (ends_is c.code) ∙ a.0);
          mode = eqb-false c.x 0 (not-true _ b.0);
          other = eqb-false c.x (task + 1) (not-true _ b.1);
        }

    from : EndsAnother task c → foreign task c ≡ true
    from k = rw (ends_is c.code, eq-eqb _ _ k.code, ne_eqb _ _ k.mode, ne_eqb _ _ k.other)

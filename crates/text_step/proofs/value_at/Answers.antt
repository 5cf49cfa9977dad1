-- The number of so many bytes, by how many they are.
use Rattle.std.proofs.Common.{◌≡◌, ℕ, ◌^◌, ◌<◌, ◌∙◌, sym, ap, ℤ, to_z, of_z, pos, arith}
use Rattle.std.proofs.lemmas.Int.{of_z-to_z, to_z_pos}
use Rattle.std.specs.Int.{w32}
use borrow.Author.Tests.{ne_eqb}
use Rattle.state_bytes.proofs.Numbers.{number_below}
use Rattle.text_step.specs.Changes.{shown_at}
use Rattle.text_step.proofs.value_at.Goals as goal

-- what is read as a signed number has the bits that it was read from
kept : (z : ℤ) (n : ℕ) → n < 2 ^ 32 → z ≡ to_z w32 n → of_z w32 (to_z w32 (of_z w32 z)) ≡ n
kept z n h e = ap (λ (x : ℤ). of_z w32 (to_z w32 (of_z w32 x))) e ∙ ap (λ (m : ℕ). of_z w32 (to_z w32 m)) (of_z-to_z w32 n h) ∙ of_z-to_z w32 n h

small : (z : ℤ) (n : ℕ) → n < 65536 → z ≡ pos n → of_z w32 (to_z w32 (of_z w32 z)) ≡ n
small z n h e = kept z n (omega arith) (e ∙ sym (to_z_pos w32 n (omega arith)))

pub returns-in-4 : goal.returns-in-4
unfolding shown_at
returns-in-4 c =
    rw c.in-4.is (kept c.signed.result _ (number_below 4 c.args.b.now c.args.at c.fits-b) c.signed.ensures)

pub returns-in-2 : goal.returns-in-2
unfolding shown_at
returns-in-2 c = rw c.in-2.is (small c.from.result c.word.result c.word.type_inv c.from.ensures ∙ c.word.ensures)

pub returns-in_default : goal.returns-in_default
unfolding shown_at
returns-in_default c =
    rw (ne_eqb c.args.width 4 (λ e. omega arith), ne_eqb c.args.width 2 (λ e. omega arith))
    (small c.from-in_default.result c.byte.result (omega arith) c.from-in_default.ensures ∙ c.byte.ensures)

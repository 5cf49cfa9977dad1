-- What the definitions of types, boards and pins say of every drive. Types: 0 is the 631, 4 the 637f. Board 0 of a slot is the empty slot.
use Prim.Native.Nat.{ℕ, zero, suc, ◌<◌, ◌≤◌}
use native.Mathlib.Omega.{arith}
use mathlib.Core.Path.{◌≡◌, refl, sym, ap, ◌∙◌}
use mathlib.Core.Bool.{Bool, true, false, ◌&&◌, not, cond}
use mathlib.Core.List.{List}
use lib.ListN.{length, get_or}
use lib.Dec.{T, eqb, ltb, leb, leb-zero}
use borrow.Author.Tests.{ltb-true, leb-true, eqb-true, eqb-false, eq-eqb, ne_eqb, lt-ltb, le-ltb, le-leb}
use Rattle.drive.specs.Types.{types, cycles, slot_b, slot_c, cycle_of, takes, takes_b, takes_c}
use Rattle.std.specs.Prelude.{Option, None, Some, Ok, Err}
use Rattle.std.specs.Option.{option_map_or}
use Rattle.drive_pins.specs.Homes.{home_in, home_of, inputs, outputs_written, outputs_read}
use Rattle.drive.specs.Pins.{on_board, presence, pin_of}
use Rattle.drive.specs.declared.Drive.{Drive}
use Rattle.drive_pins.specs.declared.Home.{Home}
use Rattle.drive_pins.specs.declared.Home.TheVariants.{Only631, Others, SlotB, SlotC}
use Rattle.drive_pins.specs.declared.PinKind.{PinKind}
use Rattle.drive_pins.specs.declared.PinKind.TheVariants.{Input, OutputWritten, OutputRead}
use Rattle.drive.specs.Types.{Presence}
use Rattle.drive.specs.declared.Absence.TheVariants.{Never}
use Rattle.drive.proofs.TypesAndSlots.{no_cycle, past_types, by_least}
use Rattle.logic.proofs.Choice.{clash, both}
use Rattle.logic.specs.Each.{each_below}
use Rattle.logic.proofs.Each.{each_passes}
use Rattle.drive_pins.proofs.Homes.{read_other}

-- ---- boards

-- a board number that a type takes is one of its slot's list
pub board_small : (least : List ℕ) (t b : ℕ) → takes least t b ≡ true → b < length least
unfolding takes
board_small least t b e = ltb-true b (length least) (both (ltb b (length least)) _ e).0

-- only the five types take boards, and none a board whose least type is above it
pub from_least : (least : List ℕ) (t b : ℕ) → takes least t b ≡ true → (t < 5) × (get_or least b 0 ≤ t)
unfolding takes
from_least least t b e =
    let r = both (ltb t (length cycles)) (leb (get_or least b 0) t) (both (ltb b (length least)) _ e).1 in
    (ltb-true t 5 r.0, leb-true (get_or least b 0) t r.1)

-- each of the five types takes board 0, the empty slot, in both slots
pub empty_always : (t : ℕ) → t < 5 → (takes_b t 0 ≡ true) × (takes_c t 0 ≡ true)
empty_always t h = (first slot_b (omega arith) refl, first slot_c (omega arith) refl)
  where
    first : (least : List ℕ) → 0 < length least → get_or least 0 0 ≡ 0 → takes least t 0 ≡ true
    first least l e = by_least least t 0 l h ∙ ap (λ (n : ℕ). leb n t) e ∙ leb-zero t

last_type : (least : List ℕ) → get_or least 2 0 ≡ 4 → (t : ℕ) → takes least t 2 ≡ true → t ≡ 4
last_type least l t e = let r = from_least least t 2 e in omega arith

-- every type but the 631 may carry the first board of each slot, and the 637f the second
pub first_board : (t : ℕ) → 1 ≤ t → t < types → (takes_b t 1 ≡ true) × (takes_c t 1 ≡ true)
unfolding takes
first_board t h k = rw (lt-ltb t types k, le-leb 1 t h) (refl, refl)

pub second_board : (takes_b 4 2 ≡ true) × (takes_c 4 2 ≡ true)
unfolding takes
second_board = (refl, refl)

-- board 2 of a slot, RP-2C8 or RP-SBT, is taken by type 4 only
pub only_637f : (t : ℕ) → (takes_b t 2 ≡ true → t ≡ 4) × (takes_c t 2 ≡ true → t ≡ 4)
only_637f t = (last_type slot_b refl t, last_type slot_c refl t)

none_but_empty : (least : List ℕ) → length least ≡ 3 → 0 < get_or least 1 0 → 0 < get_or least 2 0 → (b : ℕ) → takes least 0 b ≡ true → b ≡ 0
none_but_empty least l h k zero e = refl
none_but_empty least l h k (suc zero) e = let r = from_least least 0 1 e in absurd (omega arith)
none_but_empty least l h k (suc (suc zero)) e = let r = from_least least 0 2 e in absurd (omega arith)
none_but_empty least l h k (suc (suc (suc b))) e =
    let r = board_small least 0 (suc (suc (suc b))) e in absurd (omega arith)

-- a 631 takes no board in either slot
pub no_board_on_631 : (b : ℕ) → (takes_b 0 b ≡ true → b ≡ 0) × (takes_c 0 b ≡ true → b ≡ 0)
no_board_on_631 b =
    (none_but_empty slot_b refl (omega arith) (omega arith) b, none_but_empty slot_c refl (omega arith) (omega arith) b)

-- ---- pins

-- pin 8 can be read as an output on the types 1 to 4 and not on the 631, and can be written on none
pub output_8 : (d : Drive) →
    (d.model ≡ 0 → pin_of d OutputRead 8 ≡ Err Never) × (0 < d.model → d.model < 5 → pin_of d OutputRead 8 ≡ Ok tt) × (pin_of d OutputWritten 8 ≡ Err Never)
unfolding pin_of home_of home_in outputs_read outputs_written presence
output_8 d =
    (λ e. simp (eq-eqb _ _ e), λ h k. simp (ne_eqb d.model 0 (λ e. omega arith), lt-ltb _ _ k), refl)

-- an output that a drive can write, or could with another board, it can read, or could, likewise
pub written_is_read : (d : Drive) (pin : ℕ) → (pin_of d OutputWritten pin ≡ Err Never → ⊥) → pin_of d OutputRead pin ≡ pin_of d OutputWritten pin
unfolding pin_of home_of
written_is_read d pin n = split (eqb pin 8) refl
  where
    split : (b : Bool) → eqb pin 8 ≡ b → pin_of d OutputRead pin ≡ pin_of d OutputWritten pin
    split true e = absurd (n (ap (pin_of d OutputWritten) (eqb-true pin 8 e) ∙ (output_8 d).2))
    split false e = ap (λ (h : Option Home). option_map_or (presence d) h (Err Never)) (read_other pin (eqb-false pin 8 e))

nothing : (d : Drive) → 5 ≤ d.model → (h : Home) → presence d h ≡ Err Never
unfolding presence on_board
nothing d h Only631 = simp (ne_eqb d.model 0 (λ e. omega arith))
nothing d h Others = simp (ne_eqb d.model 0 (λ e. omega arith), le-ltb _ _ h)
nothing d h (SlotB b) = simp (past_types slot_b d.model b h)
nothing d h (SlotC b) = simp (past_types slot_c d.model b h)

-- a drive whose type number is none of the five has no pin, and its cycle length is 0
pub no_type : (d : Drive) → 5 ≤ d.model → ((kind : PinKind) (pin : ℕ) → pin_of d kind pin ≡ Err Never) × (cycle_of d.model ≡ 0)
unfolding pin_of
no_type d h = (λ kind pin. go (home_of kind pin), no_cycle d.model h)
  where
    go : (home : Option Home) → option_map_or (presence d) home (Err Never) ≡ Err Never
    go None = refl
    go (Some home) = nothing d h home

-- whether a 631, or else another type, can have what is at a home, by the drive itself or a board
abbrev on : Bool → Option Home → Bool
on is631 None = false
on is631 (Some Only631) = is631
on is631 (Some Others) = not is631
on is631 (Some (SlotB b)) = true
on is631 (Some (SlotC b)) = true

-- what a drive has, or would have with another board
has : (d : Drive) (h : Option Home) → (option_map_or (presence d) h (Err Never) ≡ Err Never → ⊥) → T (on (eqb d.model 0) h)
unfolding presence
has d None p = p refl
has d (Some Only631) p = only (eqb d.model 0) p
  where
    only : (b : Bool) → (cond b (Ok (tt {0})) (Err Never) ≡ Err Never → ⊥) → T b
    only true n = tt
    only false n = n refl
has d (Some Others) p = others (eqb d.model 0) _ p
  where
    others : (b : Bool) (x : Presence) → (cond b (Err Never) x ≡ Err Never → ⊥) → T (not b)
    others true x n = n refl
    others false x n = tt
has d (Some (SlotB b)) p = tt
has d (Some (SlotC b)) p = tt

-- neither a 631 nor another type can have both
abbrev apart : Option Home → Option Home → Bool
apart h g = not (on true h && on true g) && not (on false h && on false g)

hit : (a b : Bool) → not (a && b) ≡ true → T a → T b → ⊥
hit true true t p q = clash (sym t)
hit true false t p q = q
hit false b t p q = p

not_both : (b : Bool) (h g : Option Home) → apart h g ≡ true → T (on b h) → T (on b g) → ⊥
not_both true h g e p q = hit (on true h) (on true g) (both (not (on true h && on true g)) (not (on false h && on false g)) e).0 p q
not_both false h g e p q = hit (on false h) (on false g) (both (not (on true h && on true g)) (not (on false h && on false g)) e).1 p q

-- a pin that a drive has as an input, or would have with another board, it never has as an output that can be read
pub never_both : (d : Drive) (pin : ℕ) → pin < 256 → (pin_of d Input pin ≡ Err Never → ⊥) → (pin_of d OutputRead pin ≡ Err Never → ⊥) → ⊥
unfolding pin_of home_of home_in inputs outputs_read outputs_written each_below
never_both d pin h p q =
    not_both (eqb d.model 0) (home_in inputs pin) (home_in outputs_read pin)
    (each_passes (λ k. apart (home_in inputs k) (home_in outputs_read k)) 256 refl pin h)
    (has d (home_in inputs pin) p)
    (has d (home_in outputs_read pin) q)

-- ---- cycle lengths

cycle_631 : cycle_of 0 ≡ 1899
unfolding cycle_of
cycle_631 = refl

cycle_635 : cycle_of 1 ≡ 1899
unfolding cycle_of
cycle_635 = refl

cycle_637 : cycle_of 2 ≡ 1899
unfolding cycle_of
cycle_637 = refl

cycle_637_plus : cycle_of 3 ≡ 844
unfolding cycle_of
cycle_637_plus = refl

cycle_637f : cycle_of 4 ≡ 844
unfolding cycle_of
cycle_637f = refl

-- Which board is missing (change request 3): `Drive::pin` says that a board is missing exactly where one that the type may carry has the pin, and never
-- exactly where no boards that the type may carry bring it; on a 631 no board is missing.
use Prim.Native.Nat.{ℕ, ◌<◌}
use native.Mathlib.Omega.{arith}
use mathlib.Core.Path.{◌≡◌, refl, sym, ap, ◌∙◌}
use mathlib.Core.Bool.{Bool, true, false, ◌&&◌, not, cond}
use mathlib.Core.Logic.{◌↔◌}
use mathlib.Core.List.{List, [], ◌∷◌}
use lib.Dec.{T, eqb, ltb, leb}
use borrow.Author.Tests.{eqb-true, eq-eqb, ltb-true}
use Rattle.std.specs.Prelude.{Option, None, Some, Ok, Err}
use Rattle.std.specs.List.{find}
use Rattle.std.specs.Option.{option_map, option_map_or}
use Rattle.drive_pins.specs.declared.PinRow.{PinRow}
use Rattle.drive_pins.specs.Homes.{home_in, home_of, inputs, outputs_written, outputs_read}
use Rattle.drive_pins.specs.declared.Home.{Home}
use Rattle.drive_pins.specs.declared.Home.TheVariants.{Only631, Others, SlotB, SlotC}
use Rattle.drive_pins.specs.declared.PinKind.{PinKind}
use Rattle.drive_pins.specs.declared.PinKind.TheVariants.{Input, OutputWritten, OutputRead}
use Rattle.drive.specs.Types.{types, type631, slot_b, slot_c, takes_b, takes_c}
use Rattle.drive.specs.Pins.{on_board, presence, pin_of}
use Rattle.drive.specs.Boards.{may_carry, with_boards, fitted, Carries, Missing, NeverThere}
use Rattle.drive.specs.declared.Drive.{Drive}
use Rattle.drive.specs.Types.{Presence}
use Rattle.drive.specs.declared.Absence.TheVariants.{BoardMissing, Never}
use Rattle.logic.proofs.Choice.{both, both_hold}
use Rattle.drive.proofs.EveryDrive.{from_least, empty_always, no_board_on_631, written_is_read, never_both}

-- ---- a board of a slot: whether the type could carry it, and whether the slot holds it

abbrev in_slot : Bool → Bool → Presence
in_slot could same = cond could (cond same (Ok tt) (Err BoardMissing)) (Err Never)

missed : (could same : Bool) → in_slot could same ≡ Err BoardMissing → could ≡ true
missed true same e = refl
missed false same e = cc

held : (could : Bool) (b : ℕ) → could ≡ true → in_slot could (eqb b b) ≡ Ok tt
held could b e = rw (e, eq-eqb b b refl)

lacking : (could same : Bool) → could ≡ true → (in_slot could same ≡ Ok tt → ⊥) → in_slot could same ≡ Err BoardMissing
lacking true true e n = absurd (n refl)
lacking true false e n = refl
lacking false same e n = cc

barred : (could same other : Bool) → in_slot could same ≡ Err Never → in_slot could other ≡ Err Never
barred true true other e = cc
barred true false other e = cc
barred false same other e = refl

joined : {b : Bool} (a : Bool) → T a → b ≡ true → (a && b) ≡ true
joined true t e = e
joined false t e = absurd t

closed : (could same : Bool) → (could ≡ true → ⊥) → in_slot could same ≡ Err Never
closed true same n = absurd (n refl)
closed false same n = refl

-- ---- no pin is at an empty slot

-- the home is no empty slot
abbrev real : Home → Bool
real Only631 = true
real Others = true
real (SlotB b) = not (eqb b 0)
real (SlotC c) = not (eqb c 0)

abbrev all_real : List PinRow → Bool
all_real [] = true
all_real (r ∷ rs) = real r.home && all_real rs

abbrev real_if : Option Home → Bool
real_if None = true
real_if (Some h) = real h

real_in : (rs : List PinRow) → T (all_real rs) → (pin : ℕ) → T (real_if (home_in rs pin))
unfolding home_in
real_in [] t pin = tt
real_in (r ∷ rs) t pin =
    let h = both_hold (real r.home) (all_real rs) t in pick (leb r.first pin && leb pin r.last) h.0 (real_in rs h.1 pin)
  where
    pick : (m : Bool) → T (real r.home) → T (real_if (home_in rs pin))
        → T (real_if (option_map (λ (q : PinRow). q.home) (cond m (Some r) (find (λ (q : PinRow). leb q.first pin && leb pin q.last) rs))))
    pick true h later = h
    pick false h later = later

real_home : (kind : PinKind) (pin : ℕ) (h : Home) → home_of kind pin ≡ Some h → T (real h)
unfolding home_of inputs outputs_written outputs_read
real_home Input pin h e = rw e at (real_in inputs tt pin)
real_home OutputWritten pin h e = rw e at (real_in outputs_written tt pin)
real_home OutputRead pin h e = rw e at (real_in outputs_read tt pin)

-- ---- homes

module _ (d : Drive) where
  missing_at : (h : Home) → T (real h) → presence d h ≡ Err BoardMissing → (may_carry d.model h ≡ true) × (presence (fitted d h) h ≡ Ok tt)
  unfolding presence on_board
  missing_at Only631 t e = absurd (only (eqb d.model type631) e)
    where
      only : (t : Bool) → cond t (Ok (tt {0})) (Err Never) ≡ Err BoardMissing → ⊥
      only true i = cc
      only false i = cc
  missing_at Others t e = absurd (others (eqb d.model type631) (ltb d.model types) e)
    where
      others : (t u : Bool) → cond t (Err Never) (cond u (Ok (tt {0})) (Err Never)) ≡ Err BoardMissing → ⊥
      others true u i = cc
      others false true i = cc
      others false false i = cc
  missing_at (SlotB b) t e =
      let could = missed (takes_b d.model b) (eqb d.b b) e in (joined (not (eqb b 0)) t could, held (takes_b d.model b) b could)
  missing_at (SlotC c) t e =
      let could = missed (takes_c d.model c) (eqb d.c c) e in (joined (not (eqb c 0)) t could, held (takes_c d.model c) c could)

  carried_at : (h : Home) → may_carry d.model h ≡ true → (presence d h ≡ Ok tt → ⊥) → presence d h ≡ Err BoardMissing
  unfolding presence on_board
  carried_at Only631 e n = cc
  carried_at Others e n = cc
  carried_at (SlotB b) e n = lacking (takes_b d.model b) (eqb d.b b) (both (not (eqb b 0)) (takes_b d.model b) e).1 n
  carried_at (SlotC c) e n = lacking (takes_c d.model c) (eqb d.c c) (both (not (eqb c 0)) (takes_c d.model c) e).1 n

  -- whatever is in the slots, carried by the type or not
  never_at : (h : Home) → presence d h ≡ Err Never → (b c : ℕ) → presence (with_boards d b c) h ≡ Err Never
  unfolding presence on_board
  never_at Only631 e b c = e
  never_at Others e b c = e
  never_at (SlotB k) e b c = barred (takes_b d.model k) (eqb d.b k) (eqb b k) e
  never_at (SlotC k) e b c = barred (takes_c d.model k) (eqb d.c k) (eqb c k) e

  empty : d.model < types → Carries d 0 0
  empty l = let e = empty_always d.model l in record { in_b = e.0; in_c = e.1 }

  none_at : (h : Home) → ((b c : ℕ) → Carries d b c → presence (with_boards d b c) h ≡ Ok tt → ⊥) → presence d h ≡ Err Never
  unfolding presence on_board
  none_at Only631 n = only (eqb d.model type631) refl
    where
      only : (t : Bool) → eqb d.model type631 ≡ t → cond t (Ok (tt {0})) (Err Never) ≡ Err Never
      only true e = absurd (n 0 0 (empty (let z = eqb-true d.model type631 e in omega arith)) (ap (λ (t : Bool). cond t (Ok tt) (Err Never)) e))
      only false e = refl
  none_at Others n = others (eqb d.model type631) (ltb d.model types) refl refl
    where
      others : (t u : Bool) → eqb d.model type631 ≡ t → ltb d.model types ≡ u → cond t (Err Never) (cond u (Ok (tt {0})) (Err Never)) ≡ Err Never
      others true u e f = refl
      others false true e f = absurd (n 0 0 (empty (ltb-true d.model types f)) (rw (e, f) refl))
      others false false e f = refl
  none_at (SlotB k) n =
      closed (takes_b d.model k) (eqb d.b k)
      (λ e. n k 0 (record { in_b = e; in_c = (empty (from_least slot_b d.model k e).0).in_c }) (held (takes_b d.model k) k e))
  none_at (SlotC k) n =
      closed (takes_c d.model k) (eqb d.c k)
      (λ e. n 0 k (record { in_b = (empty (from_least slot_c d.model k e).0).in_b; in_c = e }) (held (takes_c d.model k) k e))

-- ---- pins

module _ (d : Drive) (kind : PinKind) (pin : ℕ) where
  -- not both, on a drive whose own boards its type may carry: the board that would bring the pin is one of those that do not
  pub missing_or_never : Carries d d.b d.c → Missing d kind pin → NeverThere d kind pin → ⊥
  missing_or_never own m n = at m.board m.carried m.bought
    where
      at : (h : Home) → may_carry d.model h ≡ true → pin_of (fitted d h) kind pin ≡ Ok tt → ⊥
      at Only631 e p = cc
      at Others e p = cc
      at (SlotB k) e p = n.none k d.c (record { in_b = (both (not (eqb k 0)) (takes_b d.model k) e).1; in_c = own.in_c }) p
      at (SlotC k) e p = n.none d.b k (record { in_b = own.in_b; in_c = (both (not (eqb k 0)) (takes_c d.model k) e).1 }) p

  missing_back : Missing d kind pin → pin_of d kind pin ≡ Err BoardMissing
  unfolding pin_of
  missing_back m = let e = m.has_it in rw e (carried_at d m.board m.carried (λ p. m.absent (rw e p)))

  -- a board is missing exactly where the type may carry the one that has the pin, with which the pin is there, and as it is it is not
  pub missing_exactly : (pin_of d kind pin ≡ Err BoardMissing) ↔ Missing d kind pin
  unfolding pin_of
  missing_exactly = (forth (home_of kind pin) refl, missing_back)
    where
      forth : (h : Option Home) → home_of kind pin ≡ h → option_map_or (presence d) h (Err Never) ≡ Err BoardMissing → Missing d kind pin
      forth None q e = cc
      forth (Some h) q e =
          let m = missing_at d h (real_home kind pin h q) e in record {
            board = h;
            has_it = q;
            carried = m.0;
            bought = rw q m.1;
            absent = λ p. let there : presence d h ≡ Ok tt = rw q at p in cc;
          }

  never_back : NeverThere d kind pin → pin_of d kind pin ≡ Err Never
  unfolding pin_of
  never_back n = go (home_of kind pin) refl
    where
      go : (h : Option Home) → home_of kind pin ≡ h → option_map_or (presence d) h (Err Never) ≡ Err Never
      go None q = refl
      go (Some h) q = none_at d h (λ b c k p. n.none b c k (rw q p))

  -- then with any boards, carried by the type or not
  pub never_with : pin_of d kind pin ≡ Err Never → (b c : ℕ) → pin_of (with_boards d b c) kind pin ≡ Err Never
  unfolding pin_of
  never_with = go (home_of kind pin)
    where
      go : (h : Option Home) → option_map_or (presence d) h (Err Never) ≡ Err Never → (b c : ℕ) → option_map_or (presence (with_boards d b c)) h (Err Never) ≡ Err Never
      go None e b c = refl
      go (Some h) e b c = never_at d h e b c

  -- never there exactly where no boards that the type may carry bring it
  pub never_exactly : (pin_of d kind pin ≡ Err Never) ↔ NeverThere d kind pin
  never_exactly = (λ e. record { none = λ b c k p. let never = never_with e b c in cc }, never_back)

-- ---- the 631

zero_board : (b : ℕ) (could : Bool) → (could ≡ true → b ≡ 0) → (not (eqb b 0) && could) ≡ true → ⊥
zero_board b could zeroed e =
    let t = both (not (eqb b 0)) could e in let is_not : false ≡ true = sym (ap (λ (k : ℕ). not (eqb k 0)) (zeroed t.1)) ∙ t.0 in cc

-- it may carry no board
pub no_board : (h : Home) → may_carry type631 h ≡ true → ⊥
no_board Only631 e = cc
no_board Others e = cc
no_board (SlotB b) e = zero_board b (takes_b type631 b) (no_board_on_631 b).0 e
no_board (SlotC c) e = zero_board c (takes_c type631 c) (no_board_on_631 c).1 e

-- so none is missing
pub none_on_631 : (d : Drive) (kind : PinKind) (pin : ℕ) → d.model ≡ type631 → pin_of d kind pin ≡ Err BoardMissing → ⊥
none_on_631 d kind pin e m =
    let known = (missing_exactly d kind pin).0 m in no_board known.board (ap (λ (t : ℕ). may_carry t known.board) (sym e) ∙ known.carried)

-- ---- pins of the other kind

-- an input, of the drive or of a board that it could have, is never an output that can be written, whatever is in the slots
pub input_never_set : (d : Drive) (pin : ℕ) → pin < 256 → (pin_of d Input pin ≡ Err Never → ⊥) → pin_of d OutputWritten pin ≡ Err Never
input_never_set d pin h p = go (pin_of d OutputWritten pin) refl
  where
    other : (pin_of d OutputWritten pin ≡ Err Never → ⊥) → ⊥
    other n = never_both d pin h p (λ e. n (sym (written_is_read d pin n) ∙ e))

    go : (q : Presence) → pin_of d OutputWritten pin ≡ q → q ≡ Err Never
    go (Err Never) e = refl
    go (Ok _) e = absurd (other (λ z. cc))
    go (Err BoardMissing) e = absurd (other (λ z. cc))

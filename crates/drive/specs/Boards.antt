-- Boards fitted to a drive, of which the laws of change request 3 speak (proofs/Boards.antt).
use Rattle.std.specs.Prelude.{ℕ, ◌≡◌, Bool, true, false, ◌&&◌, not, Some, eqb, Ok}
use Rattle.drive_pins.specs.declared.Home.{Home}
use Rattle.drive_pins.specs.declared.Home.TheVariants.{Only631, Others, SlotB, SlotC}
use Rattle.drive_pins.specs.Homes.{home_of}
use Rattle.drive_pins.specs.declared.PinKind.{PinKind}
use Rattle.drive.specs.Types.{takes_b, takes_c}
use Rattle.drive.specs.Pins.{pin_of}
use Rattle.drive.specs.declared.Drive.{Drive}

-- whether the home is a board, and one that the type may carry; board 0 is the empty slot
abbrev pub may_carry : ℕ → Home → Bool
may_carry t Only631 = false
may_carry t Others = false
may_carry t (SlotB b) = not (eqb b 0) && takes_b t b
may_carry t (SlotC c) = not (eqb c 0) && takes_c t c

-- the same type with these boards
abbrev pub with_boards : Drive → ℕ → ℕ → Drive
with_boards d b c = record { model = d.model; b = b; c = c }

-- the same type with that board in its slot, whatever was there, and the other slot as it was
abbrev pub fitted : Drive → Home → Drive
fitted d Only631 = d
fitted d Others = d
fitted d (SlotB b) = with_boards d b d.c
fitted d (SlotC c) = with_boards d d.b c

-- the drive's type may have these in its slots, 0 among them
pub record Carries (d : Drive) (b c : ℕ) : Type 0 where
  pub in_b : takes_b d.model b ≡ true
  pub in_c : takes_c d.model c ≡ true

-- 23: the pin's home is a board that the type may carry; with that board fitted the drive has the pin, and as it is it has not
pub record Missing (d : Drive) (kind : PinKind) (pin : ℕ) : Type 0 where
  pub board : Home
  pub has_it : home_of kind pin ≡ Some board
  pub carried : may_carry d.model board ≡ true
  pub bought : pin_of (fitted d board) kind pin ≡ Ok tt
  pub absent : pin_of d kind pin ≡ Ok tt → ⊥

-- 6: no boards that the type may carry bring the pin
pub record NeverThere (d : Drive) (kind : PinKind) (pin : ℕ) : Type 0 where
  pub none : (b c : ℕ) → Carries d b c → pin_of (with_boards d b c) kind pin ≡ Ok tt → ⊥

-- Types of drives, their cycle lengths and the boards they may carry: document 01, "Drive and pins".
-- Types: 0 is the 631, 1 the 635, 2 the 637, 3 the 637+, 4 the 637f.
use Rattle.std.specs.Prelude.{ℕ, Bool, ◌&&◌, List, [], ◌∷◌, length, get_or, ltb, leb, Result}
use Rattle.drive.specs.declared.Slot.{Slot}
use Rattle.drive.specs.declared.Slot.TheVariants.{B, C}
use Rattle.drive.specs.declared.Absence.{Absence}

-- whether a drive has a pin
abbrev pub Presence : Type 0
Presence = Result (Unit {0}) Absence

-- how many types there are
abbrev pub types : ℕ
types = 5

-- the 631, which takes no board and has pins of its own
abbrev pub type631 : ℕ
type631 = 0

-- the 637+
abbrev pub type_637_plus : ℕ
type_637_plus = 3

-- cycle lengths in microseconds, by type
abbrev pub cycles : List ℕ
cycles = 1899 ∷ 1899 ∷ 1899 ∷ 844 ∷ 844 ∷ []

-- 0 for a number that is no type
unfoldable pub cycle_of : ℕ → ℕ
cycle_of t = get_or cycles t 0

-- the least type that may carry each board of slot B: 0 empty, 1 RP-EA5 (not on a 631), 2 RP-2C8 (type 4 only)
abbrev pub slot_b : List ℕ
slot_b = 0 ∷ 1 ∷ 4 ∷ []

-- the same for slot C: 0 empty, 1 RP-EAE (not on a 631), 2 RP-SBT (type 4 only)
abbrev pub slot_c : List ℕ
slot_c = 0 ∷ 1 ∷ 4 ∷ []

-- the least types of a slot's boards
abbrev pub boards : Slot → List ℕ
boards B = slot_b
boards C = slot_c

-- whether type t, one of the five, may carry board b, one of the slot's
unfoldable pub takes : List ℕ → ℕ → ℕ → Bool
takes least t b = ltb b (length least) && (ltb t types && leb (get_or least b 0) t)

abbrev pub takes_b : ℕ → ℕ → Bool
takes_b t b = takes slot_b t b

abbrev pub takes_c : ℕ → ℕ → Bool
takes_c t b = takes slot_c t b

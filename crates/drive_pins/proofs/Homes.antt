-- Where pins are: pin 8 is the one output that is read only.
use Prim.Native.Nat.{ℕ}
use native.Mathlib.Omega.{arith}
use mathlib.Core.Path.{◌≡◌, refl}
use mathlib.Core.Bool.{Bool, true, false, ◌&&◌}
use lib.Dec.{leb}
use borrow.Author.Tests.{leb-true}
use Rattle.std.specs.Prelude.{Some}
use Rattle.drive_pins.specs.Homes.{home_in, outputs_written, outputs_read}
use Rattle.drive_pins.specs.declared.Home.TheVariants.{Others}

-- pin 8 is the one output that is read and not written
pub read_8 : (pin : ℕ) → pin ≡ 8 → home_in outputs_read pin ≡ Some Others
unfolding home_in outputs_read
read_8 pin e = rw e

pub read_other : (pin : ℕ) → (pin ≡ 8 → ⊥) → home_in outputs_read pin ≡ home_in outputs_written pin
unfolding home_in outputs_read
read_other pin n = rw (not_8 (leb 8 pin) (leb pin 8) refl refl)
  where
    not_8 : (a b : Bool) → leb 8 pin ≡ a → leb pin 8 ≡ b → (a && b) ≡ false
    not_8 true true p q = absurd (let h = leb-true 8 pin p in let k = leb-true pin 8 q in n (omega arith))
    not_8 true false p q = refl
    not_8 false b p q = refl

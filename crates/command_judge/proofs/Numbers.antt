-- No two faults of a block have one number, 6 and 23 among them: who is told the number knows the fault.
use Rattle.std.specs.Prelude.{is_ok, Ok, Err}
use Prim.Native.Nat.{ℕ}
use mathlib.Core.Path.{◌≡◌, refl, sym, ap, ◌∙◌}
use mathlib.Core.Bool.{cond}
use lib.Dec.{eqb}
use Rattle.logic.proofs.Choice.{clash}
use Rattle.command_judge.specs.BlockFault.{BlockResult, block_fault_number}
use Rattle.command_judge.specs.declared.BlockFault.{BlockFault}
use Rattle.command_judge.specs.declared.BlockFault.TheVariants.{NotCarried, NotOnDrive, BoardMissing, OutOfRange, NotZero}

abbrev numbered : ℕ → BlockResult
numbered n =
    cond (eqb n 5) (Err NotCarried) (cond (eqb n 6) (Err NotOnDrive) (cond (eqb n 23) (Err BoardMissing) (cond (eqb n 7) (Err OutOfRange) (cond (eqb n 8) (Err NotZero) (Ok tt)))))

back : (f : BlockResult) → numbered (block_fault_number f) ≡ f
back (Ok _) = refl
back (Err NotCarried) = refl
back (Err NotOnDrive) = refl
back (Err BoardMissing) = refl
back (Err OutOfRange) = refl
back (Err NotZero) = refl

pub number_tells : (f g : BlockResult) → block_fault_number f ≡ block_fault_number g → f ≡ g
number_tells f g e = sym (back f) ∙ ap numbered e ∙ back g

-- a fault has a number that is not 0
pub refused_number : (f : BlockFault) → block_fault_number (Err f) ≡ 0 → ⊥
refused_number f e = clash (sym (ap is_ok (number_tells (Err f) (Ok tt) e)))

-- a block passes where its number is 0
pub block_passes : (r : BlockResult) → is_ok r ≡ eqb (block_fault_number r) 0
block_passes (Ok _) = refl
block_passes (Err NotCarried) = refl
block_passes (Err NotOnDrive) = refl
block_passes (Err BoardMissing) = refl
block_passes (Err OutOfRange) = refl
block_passes (Err NotZero) = refl

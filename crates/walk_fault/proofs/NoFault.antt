-- A fault without a number is none.
use Rattle.std.specs.Prelude.{is_ok, Ok, Err}
use mathlib.Core.Path.{◌≡◌, refl}
use native.Mathlib.Omega.{arith}
use lib.Dec.{eqb}
use Rattle.walk_fault.specs.Fault.{FaultResult, fault_number}
use Rattle.walk_fault.specs.declared.Fault.TheVariants.{Foreign, Forbidden, TooDeep, NoCall, PastEnd}

pub no_fault : (f : FaultResult) → fault_number f ≡ 0 → f ≡ Ok tt
no_fault (Ok _) e = refl
no_fault (Err Foreign) e = absurd (omega arith)
no_fault (Err Forbidden) e = absurd (omega arith)
no_fault (Err TooDeep) e = absurd (omega arith)
no_fault (Err NoCall) e = absurd (omega arith)
no_fault (Err PastEnd) e = absurd (omega arith)

-- nothing is broken where the number is 0
pub point_passes : (r : FaultResult) → is_ok r ≡ eqb (fault_number r) 0
point_passes (Ok _) = refl
point_passes (Err Foreign) = refl
point_passes (Err Forbidden) = refl
point_passes (Err TooDeep) = refl
point_passes (Err NoCall) = refl
point_passes (Err PastEnd) = refl

-- The faults of a point: which is that of a foreign 51, which are bad, and document 01's numbers ("Refused because of the input").
use Rattle.std.specs.Prelude.{ℕ, Bool, true, false, Result, Ok, Err}
use Rattle.walk_fault.specs.declared.Fault.{Fault}
use Rattle.walk_fault.specs.declared.Fault.TheVariants.{Foreign, Forbidden, TooDeep, NoCall, PastEnd}

-- what judging a point comes to
abbrev pub FaultResult : Type 0
FaultResult = Result (Unit {0}) Fault

-- a 51 that ends another task
abbrev pub is_foreign : FaultResult → Bool
is_foreign (Err Foreign) = true
is_foreign (Ok _) = false
is_foreign (Err Forbidden) = false
is_foreign (Err TooDeep) = false
is_foreign (Err NoCall) = false
is_foreign (Err PastEnd) = false

-- bad by 9 to 12
abbrev pub is_bad : FaultResult → Bool
is_bad (Ok _) = false
is_bad (Err Foreign) = false
is_bad (Err Forbidden) = true
is_bad (Err TooDeep) = true
is_bad (Err NoCall) = true
is_bad (Err PastEnd) = true

-- document 01's number
abbrev pub fault_number : FaultResult → ℕ
fault_number (Ok _) = 0
fault_number (Err Foreign) = 7
fault_number (Err Forbidden) = 9
fault_number (Err TooDeep) = 10
fault_number (Err NoCall) = 11
fault_number (Err PastEnd) = 12

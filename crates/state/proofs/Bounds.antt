-- The numbers of a good state's waits: the turns are few, because the wait is not over and a cycle is at least one microsecond.
use Prim.Native.Nat.{ℕ, zero, suc, ◌*◌, ◌<◌, ◌≤◌}
use native.Mathlib.Omega.{arith}
use native.Mathlib.Nat.{mul-le-mul_left}
use borrow.Author.Tests.{leb-false}
use Rattle.drive.specs.Types.{types, cycle_of}
use Rattle.state.specs.GoodState.{GoodWait}

cycle_positive : (m : ℕ) → m < types → 0 < cycle_of m
unfolding cycle_of
cycle_positive zero h = omega arith
cycle_positive (suc zero) h = omega arith
cycle_positive (suc (suc zero)) h = omega arith
cycle_positive (suc (suc (suc zero))) h = omega arith
cycle_positive (suc (suc (suc (suc zero)))) h = omega arith
cycle_positive (suc (suc (suc (suc (suc m))))) h = absurd (omega arith)

-- one more turn still fits 32 bits
pub wait_fits_lem : (m time turns : ℕ) → m < types → GoodWait m time turns → (time < 4294967296) × (turns < 4294967295)
wait_fits_lem m time turns h GoodWait.none = (omega arith, omega arith)
wait_fits_lem m time turns h (GoodWait.pending a b e) =
    let p = cycle_positive m h in
    let q : turns * 1 ≤ turns * cycle_of m = mul-le-mul_left turns p in
    let r : turns * cycle_of m < 1000 * time = leb-false (1000 * time) (turns * cycle_of m) e in
    (omega arith, omega arith)

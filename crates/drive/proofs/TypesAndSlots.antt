-- The definitions of types and slots, case by case: what each says where a test holds or fails.
use Prim.Native.Nat.{ℕ, zero, suc, ◌<◌, ◌≤◌}
use native.Mathlib.Omega.{arith}
use mathlib.Core.Path.{◌≡◌, refl}
use mathlib.Core.Bool.{false, and-false}
use mathlib.Core.List.{List}
use lib.ListN.{length, get_or, get_or-eq_default}
use lib.Dec.{leb}
use borrow.Author.Tests.{lt-ltb, le-ltb}
use Rattle.drive.specs.Types.{cycles, cycle_of, takes}

-- types 0 to 2 have the long cycle
pub long_cycle : (t : ℕ) → t ≤ 2 → cycle_of t ≡ 1899
unfolding cycle_of
long_cycle zero h = refl
long_cycle (suc zero) h = refl
long_cycle (suc (suc zero)) h = refl
long_cycle (suc (suc (suc t))) h = absurd (omega arith)

-- types 3 and 4 have the short one
pub short_cycle : (t : ℕ) → 2 < t → t ≤ 4 → cycle_of t ≡ 844
unfolding cycle_of
short_cycle zero h k = absurd (omega arith)
short_cycle (suc zero) h k = absurd (omega arith)
short_cycle (suc (suc zero)) h k = absurd (omega arith)
short_cycle (suc (suc (suc zero))) h k = refl
short_cycle (suc (suc (suc (suc zero)))) h k = refl
short_cycle (suc (suc (suc (suc (suc t))))) h k = absurd (omega arith)

-- a number past the types has none
pub no_cycle : (t : ℕ) → 5 ≤ t → cycle_of t ≡ 0
unfolding cycle_of
no_cycle t h = get_or-eq_default cycles 0 h

-- no number past the types takes a board
pub past_types : (least : List ℕ) (t b : ℕ) → 5 ≤ t → takes least t b ≡ false
unfolding takes
past_types least t b h = simp (le-ltb _ _ h, and-false)

-- a type takes a board of the list from the board's least type on
pub by_least : (least : List ℕ) (t b : ℕ) → b < length least → t < 5 → takes least t b ≡ leb (get_or least b 0) t
unfolding takes
by_least least t b h k = simp (lt-ltb _ _ h, lt-ltb _ _ k)

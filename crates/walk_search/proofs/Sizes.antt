-- How many depths a set has: never more than there are, and more where a set has all of another's and is not that one.
use Prim.Native.Nat.{ℕ, zero, suc, ◌+◌, ◌*◌, ◌/◌, ◌%◌, ◌^◌, ◌<◌, ◌≤◌}
use native.Mathlib.Nat.{pow-succ'}
use native.Mathlib.Decide.{ℕ_discrete}
use native.Mathlib.Omega.{arith}
use mathlib.Core.Path.{◌≡◌}
use Rattle.limits.specs.Limits.{depths}
use Rattle.walk_graph.specs.Depths.{sets, digit, Has}

size_below : ℕ → ℕ → ℕ
size_below zero s = 0
size_below (suc n) s = s % 2 + size_below n (s / 2)

pub size : ℕ → ℕ
size s = size_below depths s

size_below_most : (n s : ℕ) → size_below n s ≤ n
unfolding size_below
size_below_most zero s = omega arith
size_below_most (suc n) s = omega (arith, size_below_most n (s / 2))

pub size_most : (s : ℕ) → size s ≤ depths
unfolding size
size_most = size_below_most depths

-- the least digit of a set that has all of another's
least_digits : (h s : ℕ) → ((d : ℕ) → Has h d → Has s d) → h % 2 ≤ s % 2
unfolding digit
least_digits h s f = go (ℕ_discrete (h % 2) 1)
  where
    go : Dec (h % 2 ≡ 1) → h % 2 ≤ s % 2
    go (yes e) = omega (arith, f 0 e)
    go (no n) = omega arith

halves : (h s : ℕ) → ((d : ℕ) → Has h d → Has s d) → (d : ℕ) → Has (h / 2) d → Has (s / 2) d
unfolding digit
halves h s f d = f (suc d)

size_le : (n h s : ℕ) → ((d : ℕ) → Has h d → Has s d) → size_below n h ≤ size_below n s
unfolding size_below
size_le zero h s f = omega arith
size_le (suc n) h s f = omega (arith, least_digits h s f, size_le n (h / 2) (s / 2) (halves h s f))

size_below_less : (n h s : ℕ) → s < 2 ^ n → ((d : ℕ) → Has h d → Has s d) → h < s → size_below n h < size_below n s
unfolding size_below
size_below_less zero h s b f l = absurd (omega arith)
size_below_less (suc n) h s b f l =
    let k : s < 2 * 2 ^ n = rw (← pow-succ' 2 n) b in go (ℕ_discrete (h / 2) (s / 2)) (size_below_less n (h / 2) (s / 2) (omega arith) (halves h s f))
  where
    go : Dec (h / 2 ≡ s / 2) → (h / 2 < s / 2 → size_below n (h / 2) < size_below n (s / 2))
        → h % 2 + size_below n (h / 2) < s % 2 + size_below n (s / 2)
    go (yes e) r = omega (arith, size_le n (h / 2) (s / 2) (halves h s f))
    go (no m) r = omega (arith, least_digits h s f, r (omega arith))

pub size_less : (h s : ℕ) → s < sets → ((d : ℕ) → Has h d → Has s d) → h < s → size h < size s
unfolding size
size_less = size_below_less depths

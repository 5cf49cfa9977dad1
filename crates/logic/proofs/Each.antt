-- Each of the first numbers passes a test exactly where the test of all of them does; and a number that is none of the first ones is past them.
use Prim.Native.Nat.{ℕ, zero, suc, ◌<◌, ◌≤◌, zero-le}
use mathlib.Core.Path.{◌≡◌, refl, sym}
use mathlib.Core.Bool.{Bool, true}
use native.Mathlib.Omega.{arith}
use lib.Arith.{lt_of_le-ne}
use borrow.Author.Count.{below_more}
use Rattle.logic.specs.Each.{each_below}
use Rattle.logic.proofs.Choice.{both}

module _ (test : ℕ → Bool) where
  pub each_passes : (n : ℕ) → each_below test n ≡ true → (k : ℕ) → k < n → test k ≡ true
  unfolding each_below
  each_passes zero e k lt = absurd (omega arith)
  each_passes (suc n) e k lt =
      let r = both (each_below test n) (test n) e in below_more (λ (j : ℕ). test j ≡ true) n (each_passes n r.0) r.1 k (omega arith)

  pub all_pass : (n : ℕ) → ((k : ℕ) → k < n → test k ≡ true) → each_below test n ≡ true
  unfolding each_below
  all_pass zero h = refl
  all_pass (suc n) h = rw (all_pass n (λ k lt. h k (omega arith)), h n (omega arith))

-- n is none of the numbers below k, as the default of a `match` on all of them has it
abbrev pub NoneBelow : ℕ → ℕ → Type 0
NoneBelow zero n = Unit {0}
NoneBelow (suc k) n = NoneBelow k n × (n ≡ k → ⊥)

-- then it is k or more
pub past : (k n : ℕ) → NoneBelow k n → k ≤ n
past zero n h = zero-le
past (suc k) n h = lt_of_le-ne (past k n h.0) (λ e. h.1 (sym e))

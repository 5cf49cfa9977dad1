-- How many pairs are pending, and how much may still be handed on, after a store. The number of pairs is a variable, so that no law counts it out.
use Prim.Native.Nat.{ℕ, zero, suc, ◌+◌, ◌-◌, ◌*◌, ◌<◌, ◌≤◌}
use mathlib.Core.Path.{◌≡◌, refl, sym}
use mathlib.Core.Bool.{Bool, true, false, cond}
use native.Mathlib.Nat.{not-suc-le-zero, mul-suc}
use native.Mathlib.Decide.{ℕ_discrete}
use native.Mathlib.Omega.{arith}
use lib.Dec.{eqb}
use borrow.Author.Tests.{eq-eqb, ne_eqb}
use Rattle.limits.specs.Limits.{depths}
use Rattle.walk_search.specs.Search.{busy}
use Rattle.walk_search.proofs.Sizes.{size, size_most}
use Rattle.walk_search.proofs.Stores.{put, put_same, put_other}

-- 1 where a pair is pending
abbrev pub odd : ℕ → ℕ → ℕ
odd h s = cond (eqb h s) 0 1

pub odd_same : (h s : ℕ) → h ≡ s → odd h s ≡ 0
odd_same h s e = rw (eq-eqb h s e)

pub odd_other : (h s : ℕ) → (h ≡ s → ⊥) → odd h s ≡ 1
odd_other h s n = rw (ne_eqb h s n)

odd_most : (h s : ℕ) → odd h s ≤ 1
odd_most h s = go (eqb h s)
  where
    go : (b : Bool) → cond b 0 1 ≤ 1
    go true = omega arith
    go false = omega arith

-- a sum over the pairs below m, of what a function has at each
pub total : (ℕ → ℕ) → ℕ → ℕ
total f zero = 0
total f (suc m) = f m + total f m

total_ext : (m : ℕ) (f g : ℕ → ℕ) → ((p : ℕ) → p < m → g p ≡ f p) → total g m ≡ total f m
unfolding total
total_ext zero f g a = refl
total_ext (suc m) f g a = rw (a m (omega arith), total_ext m f g (λ p h. a p (omega arith)))

-- where two functions differ at i alone, so do their sums
pub total_set : (m : ℕ) (f g : ℕ → ℕ) (i : ℕ) → i < m → ((p : ℕ) → (p ≡ i → ⊥) → g p ≡ f p) → total g m + f i ≡ total f m + g i
unfolding total
total_set zero f g i h a = absurd (not-suc-le-zero h)
total_set (suc m) f g i h a = go (ℕ_discrete i m) (λ j. total_set m f g i j a)
  where
    go : Dec (i ≡ m) → (i < m → total g m + f i ≡ total f m + g i) → g m + total g m + f i ≡ f m + total f m + g i
    go (yes e) r = rw e (omega (arith, total_ext m f g (λ p k. a p (λ z. omega arith))))
    go (no n) r = omega (arith, a m (λ z. n (sym z)), r (omega arith))

-- where none is more than k
pub total_most : (m : ℕ) (f : ℕ → ℕ) (k : ℕ) → ((p : ℕ) → f p ≤ k) → total f m ≤ k * m
unfolding total
total_most zero f k a = omega arith
total_most (suc m) f k a = omega (arith, a m, total_most m f k a, mul-suc k m)

-- ---- pending pairs

busy_is : (m : ℕ) (hs ss : ℕ → ℕ) → busy m hs ss ≡ total (λ p. odd (hs p) (ss p)) m
unfolding busy total
busy_is zero hs ss = refl
busy_is (suc m) hs ss = rw (busy_is m hs ss)

-- a store to what is seen, and to what was handed on
pub busy_seen : (m : ℕ) (hs ss : ℕ → ℕ) (i v : ℕ) → i < m → busy m hs (put ss i v) + odd (hs i) (ss i) ≡ busy m hs ss + odd (hs i) v
busy_seen m hs ss i v h =
    let t = total_set m (λ p. odd (hs p) (ss p)) (λ p. odd (hs p) (put ss i v p)) i h (λ p n. rw (put_other ss i p v n)) in
    rw (busy_is m hs (put ss i v), busy_is m hs ss) (rw (put_same ss i v) at t)

pub busy_handed : (m : ℕ) (hs ss : ℕ → ℕ) (i v : ℕ) → i < m → busy m (put hs i v) ss + odd (hs i) (ss i) ≡ busy m hs ss + odd v (ss i)
busy_handed m hs ss i v h =
    let t = total_set m (λ p. odd (hs p) (ss p)) (λ p. odd (put hs i v p) (ss p)) i h (λ p n. rw (put_other hs i p v n)) in
    rw (busy_is m (put hs i v) ss, busy_is m hs ss) (rw (put_same hs i v) at t)

pub busy_most : (m : ℕ) (hs ss : ℕ → ℕ) → busy m hs ss ≤ m
unfolding busy
busy_most zero hs ss = omega arith
busy_most (suc m) hs ss = omega (arith, busy_most m hs ss, odd_most (hs m) (ss m))

-- where a pair is not pending there is room for it
pub busy_room : (m : ℕ) (hs ss : ℕ → ℕ) (i : ℕ) → i < m → hs i ≡ ss i → busy m hs ss < m
unfolding busy
busy_room zero hs ss i h e = absurd (not-suc-le-zero h)
busy_room (suc m) hs ss i h e = go (ℕ_discrete i m) (λ j. busy_room m hs ss i j e)
  where
    go : Dec (i ≡ m) → (i < m → busy m hs ss < m) → odd (hs m) (ss m) + busy m hs ss < suc m
    go (yes k) f = omega (arith, busy_most m hs ss, odd_same (hs m) (ss m) (rw k at e))
    go (no n) f = omega (arith, f (omega arith), odd_most (hs m) (ss m))

-- where none is pending all was handed on
pub busy_none : (m : ℕ) (hs ss : ℕ → ℕ) → busy m hs ss ≡ 0 → (p : ℕ) → p < m → hs p ≡ ss p
unfolding busy
busy_none zero hs ss z p h = absurd (not-suc-le-zero h)
busy_none (suc m) hs ss z p h = go (ℕ_discrete p m) (busy_none m hs ss (omega arith) p) (ℕ_discrete (hs m) (ss m))
  where
    go : Dec (p ≡ m) → (p < m → hs p ≡ ss p) → Dec (hs m ≡ ss m) → hs p ≡ ss p
    go (yes e) f (yes k) = rw e k
    go (yes e) f (no k) = absurd (omega (arith, odd_other (hs m) (ss m) k))
    go (no n) f d = f (omega arith)

pub busy_same : (m : ℕ) (hs ss : ℕ → ℕ) → ((p : ℕ) → hs p ≡ ss p) → busy m hs ss ≡ 0
unfolding busy
busy_same zero hs ss f = refl
busy_same (suc m) hs ss f = omega (arith, odd_same (hs m) (ss m) (f m), busy_same m hs ss f)

-- ---- how many points may still be handed on: the measure of a search

pub left : ℕ → (ℕ → ℕ) → ℕ
left m hs = total (λ p. depths - size (hs p)) m

pub left_less : (m : ℕ) (hs : ℕ → ℕ) (i v : ℕ) → i < m → size (hs i) < size v → left m (put hs i v) < left m hs
unfolding left
left_less m hs i v h l =
    let t = total_set m (λ p. depths - size (hs p)) (λ p. depths - size (put hs i v p)) i h (λ p n. rw (put_other hs i p v n)) in
    omega (arith, rw (put_same hs i v) at t, size_most v)

-- never more than all points of the pairs
pub left_most : (m : ℕ) (hs : ℕ → ℕ) → left m hs ≤ depths * m
unfolding left
left_most m hs = total_most m (λ p. depths - size (hs p)) depths (λ p. omega arith)

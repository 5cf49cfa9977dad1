-- The landing list that 17 compares: the list of an image, with room for the most, and the landing blocks of the terms, which are its first.
use Prim.Native.Nat.{ℕ, zero, suc, ◌<◌}
use mathlib.Core.Path.{◌≡◌, refl, ap, ap₂, ◌∙◌}
use mathlib.Core.Bool.{true, ◌&&◌}
use mathlib.Core.List.{List, [], ◌∷◌}
use native.Mathlib.Omega.{arith}
use lib.Dec.{eqb}
use lib.ListN.{get_or, take}
use Rattle.logic.specs.Each.{each_below}
use Rattle.image_header.specs.Rows.{same_landings}
use Rattle.image_header.proofs.Numbers.{is_same_landings}

-- the first n of a list
pub get_or_taken : (n : ℕ) (l : List ℕ) (k : ℕ) → k < n → get_or (take n l) k 0 ≡ get_or l k 0
get_or_taken zero l k u = absurd (omega arith)
get_or_taken (suc n) [] k u = refl
get_or_taken (suc n) (x ∷ l) zero u = refl
get_or_taken (suc n) (x ∷ l) (suc k) u = get_or_taken n l k (omega arith)

-- a list is compared with them as with the whole
pub same_taken : (n : ℕ) (l m : List ℕ) → same_landings n l (take n m) ≡ same_landings n l m
unfolding same_landings each_below
same_taken n l m = go n (λ k u. ap (λ (x : ℕ). eqb (get_or l k 0) x) (get_or_taken n m k u))
  where
    go : (i : ℕ) → ((k : ℕ) → k < i → eqb (get_or l k 0) (get_or (take n m) k 0) ≡ eqb (get_or l k 0) (get_or m k 0))
        → each_below (λ (k : ℕ). eqb (get_or l k 0) (get_or (take n m) k 0)) i ≡ each_below (λ (k : ℕ). eqb (get_or l k 0) (get_or m k 0)) i
    go zero e = refl
    go (suc i) e = ap₂ ◌&&◌ (go i (λ k u. e k (omega arith))) (e i (omega arith))

-- they are the same as those of the list
pub taken_same : (n : ℕ) (l : List ℕ) → same_landings n l (take n l) ≡ true
taken_same n l = same_taken n l l ∙ is_same_landings n l

-- The closure has exactly what is reached, given fuel enough: each step takes a number off the list to do, and only a new one, of which there are
-- n, puts on it as many as may follow one.
use Prim.Native.Nat.{ℕ, zero, suc, ◌+◌, ◌*◌, ◌<◌, ◌≤◌}
use mathlib.Core.Path.{◌≡◌, refl}
use mathlib.Core.Bool.{Bool, true, false, ◌||◌, cond}
use mathlib.Core.Logic.{◌⊎◌, inl, inr, ⊎_elim}
use mathlib.Core.List.{List, [], ◌∷◌, ◌++◌}
use native.Mathlib.Nat.{not-suc-le-zero}
use native.Mathlib.Omega.{arith}
use lib.ListN.{length, length-append}
use lib.Dec.{eqb}
use borrow.Author.Tests.{eqb-true, eqb-false}
use Rattle.walk.specs.Graph.{In, has, Reach, closure}
use Rattle.walk.specs.Verdict.{most_following}
use Rattle.walk.proofs.Membership.{has_in, in_left, in_right, in_either}

weight : Bool → ℕ
weight b = cond b 0 1

-- how many numbers below n are not in a list
unseen : ℕ → List ℕ → ℕ
unseen zero seen = 0
unseen (suc n) seen = weight (has seen n) + unseen n seen

weight_most : (a : Bool) → weight a ≤ 1
unfolding weight
weight_most true = omega arith
weight_most false = omega arith

weight_less : (a b : Bool) → weight (a || b) ≤ weight b
unfolding weight
weight_less true b = omega arith
weight_less false b = omega arith

unseen_most : (n : ℕ) (seen : List ℕ) → unseen n seen ≤ n
unfolding unseen
unseen_most zero seen = omega arith
unseen_most (suc n) seen = omega (arith, weight_most (has seen n), unseen_most n seen)

unseen_more : (n p : ℕ) (seen : List ℕ) → unseen n (p ∷ seen) ≤ unseen n seen
unfolding unseen
unseen_more zero p seen = omega arith
unseen_more (suc n) p seen = omega (arith, weight_less (eqb n p) (has seen n), unseen_more n p seen)

-- each new number leaves fewer
unseen_less : (n p : ℕ) (seen : List ℕ) → p < n → has seen p ≡ false → unseen n (p ∷ seen) < unseen n seen
unfolding unseen weight
unseen_less zero p seen h e = absurd (not-suc-le-zero h)
unseen_less (suc n) p seen h e = go (eqb n p) refl (unseen_less n p seen)
  where
    go : (t : Bool) → eqb n p ≡ t → (p < n → has seen p ≡ false → unseen n (p ∷ seen) < unseen n seen)
        → weight (t || has seen n) + unseen n (p ∷ seen) < weight (has seen n) + unseen n seen
    go true i later = rw (eqb-true n p i, e) (omega (arith, unseen_more p p seen))
    go false i later = let ne = eqb-false n p i in omega (arith, later (omega arith) e)

module _ (next : ℕ → List ℕ) (root : ℕ) where
  -- what holds all through the closure
  record Sofar (todo seen : List ℕ) : Type 0 where
    first : In root seen ⊎ In root todo
    closed : (p q : ℕ) → In p seen → In q (next p) → In q seen ⊎ In q todo
    seen_ok : (p : ℕ) → In p seen → Reach next root p
    todo_ok : (p : ℕ) → In p todo → Reach next root p

  -- a number that is seen already
  again : (p : ℕ) (todo seen : List ℕ) → In p seen → Sofar (p ∷ todo) seen → Sofar todo seen
  again p todo seen m s = record {
    first = drop root s.first;
    closed = λ o q k t. drop q (s.closed o q k t);
    seen_ok = s.seen_ok;
    todo_ok = λ o k. s.todo_ok o (inr k);
  }
    where
      drop : (q : ℕ) → In q seen ⊎ In q (p ∷ todo) → In q seen ⊎ In q todo
      drop q (inl k) = inl k
      drop q (inr (inl i)) = inl (rw i m)
      drop q (inr (inr k)) = inr k

  -- a number that is new
  anew : (p : ℕ) (todo seen : List ℕ) → Sofar (p ∷ todo) seen → Sofar (next p ++ todo) (p ∷ seen)
  anew p todo seen s = record {
    first = move root s.first;
    closed = λ o q k t. ⊎_elim (λ i. inr (in_left (next p) todo q (rw i at t))) (λ m. move q (s.closed o q m t)) k;
    seen_ok = λ o k. ⊎_elim (λ i. rw i here) (λ m. s.seen_ok o m) k;
    todo_ok = λ o k. ⊎_elim (λ t. Reach.step p o here t) (λ m. s.todo_ok o (inr m)) (in_either (next p) todo o k);
  }
    where
      here : Reach next root p
      here = s.todo_ok p (inl refl)

      move : (q : ℕ) → In q seen ⊎ In q (p ∷ todo) → In q (p ∷ seen) ⊎ In q (next p ++ todo)
      move q (inl k) = inl (inr k)
      move q (inr (inl i)) = inl (inl i)
      move q (inr (inr k)) = inr (in_right (next p) todo q k)

  module _ (n : ℕ) (inside : (p : ℕ) → Reach next root p → p < n) (few : (p : ℕ) → length (next p) ≤ most_following) where
    -- with fuel enough nothing is left to do
    whole : (f : ℕ) (todo seen : List ℕ) → Sofar todo seen → (most_following + 1) * unseen n seen + length todo ≤ f → Sofar [] (closure next f todo seen)
    unfolding closure
    whole zero [] seen s h = s
    whole zero (p ∷ todo) seen s h = absurd (omega arith)
    whole (suc f) [] seen s h = s
    whole (suc f) (p ∷ todo) seen s h = go (has seen p) refl (whole f todo seen) (whole f (next p ++ todo) (p ∷ seen))
      where
        go : (t : Bool) → has seen p ≡ t
            → (Sofar todo seen → (most_following + 1) * unseen n seen + length todo ≤ f → Sofar [] (closure next f todo seen))
            → (Sofar (next p ++ todo) (p ∷ seen) → (most_following + 1) * unseen n (p ∷ seen) + length (next p ++ todo) ≤ f
            → Sofar [] (closure next f (next p ++ todo) (p ∷ seen)))
            → Sofar [] (elim t [ true ↦ closure next f todo seen | false ↦ closure next f (next p ++ todo) (p ∷ seen) ])
        go true e old new = old (again p todo seen (has_in seen p e) s) (omega arith)
        go false e old new =
            new (anew p todo seen s)
            (omega (arith, unseen_less n p seen (inside p (s.todo_ok p (inl refl))) e, length-append (next p) todo, few p))

    module _ (f : ℕ) (enough : (most_following + 1) * n + 1 ≤ f) where
      abbrev all : List ℕ
      all = closure next f (root ∷ []) []

      done : Sofar [] all
      done =
          whole f (root ∷ []) []
          (record {
            first = inr (inl refl);
            closed = λ p q m. absurd m;
            seen_ok = λ p m. absurd m;
            todo_ok = λ p m. ⊎_elim (λ i. rw i Reach.begin) (λ k. absurd k) m;
          })
          (omega (arith, unseen_most n []))

      -- what the closure has is reached, and it has what is reached
      pub closure_sound : (p : ℕ) → In p all → Reach next root p
      closure_sound = done.seen_ok

      pub closure_whole : (p : ℕ) → Reach next root p → In p all
      closure_whole p Reach.begin = ⊎_elim (λ m. m) (λ k. absurd k) done.first
      closure_whole p (Reach.step o q r t) = ⊎_elim (λ m. m) (λ k. absurd k) (done.closed o p (closure_whole o r) t)

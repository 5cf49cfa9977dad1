-- A store to the marks is a store to one of the functions that they hold, and leaves the others as they were.
use Prim.Native.Nat.{ℕ, ◌+◌, ◌*◌, ◌/◌, ◌%◌, ◌<◌}
use mathlib.Core.Path.{◌≡◌, refl, sym, fun_ext, ◌∙◌}
use mathlib.Core.Bool.{cond}
use mathlib.Core.List.{List}
use native.Mathlib.Decide.{ℕ_discrete}
use native.Mathlib.Omega.{arith}
use lib.ListN.{length, get_or, set, length-set}
use lib.Seq.{get_or-set_same, get_or-set_other}
use lib.Dec.{eqb}
use borrow.Author.Tests.{eq-eqb, ne_eqb}
use Rattle.walk_search.specs.Search.{pair_marks, seen_in, handed_in, list_in, with_seen, with_handed, with_entry}

-- a function with another value at q
unfoldable pub put : (ℕ → ℕ) → ℕ → ℕ → ℕ → ℕ
put f q v p = cond (eqb p q) v (f p)

pub put_same : (f : ℕ → ℕ) (q v : ℕ) → put f q v q ≡ v
unfolding put
put_same f q v = rw (eq-eqb q q refl)

pub put_other : (f : ℕ → ℕ) (q p v : ℕ) → (p ≡ q → ⊥) → put f q v p ≡ f p
unfolding put
put_other f q p v n = rw (ne_eqb p q n)

-- what holds everywhere after a store
pub at_put : (P : ℕ → ℕ → Type 0) (f : ℕ → ℕ) (q v : ℕ) → P q v → ((p : ℕ) → (p ≡ q → ⊥) → P p (f p)) → (p : ℕ) → P p (put f q v p)
at_put P f q v same other p = go (ℕ_discrete p q)
  where
    go : Dec (p ≡ q) → P p (put f q v p)
    go (yes e) = rw (e, put_same f q v) same
    go (no n) = rw (put_other f q p v n) (other p n)

module _ (q v : ℕ) (l : List ℕ) where
  pub seen_set : pair_marks * q < length l → seen_in (with_seen q v l) ≡ put (seen_in l) q v
  seen_set h = fun_ext (λ p. go p (ℕ_discrete p q))
    where
      go : (p : ℕ) → Dec (p ≡ q) → seen_in (with_seen q v l) p ≡ put (seen_in l) q v p
      go p (yes e) = rw (e, put_same (seen_in l) q v, get_or-set_same l (pair_marks * q) v 0 h)
      go p (no n) = get_or-set_other l (pair_marks * q) (pair_marks * p) v 0 (λ e. n (omega arith)) ∙ sym (put_other (seen_in l) q p v n)

  pub handed_seen : handed_in (with_seen q v l) ≡ handed_in l
  handed_seen = fun_ext (λ p. get_or-set_other l (pair_marks * q) (pair_marks * p + 1) v 0 (λ e. omega arith))

  pub handed_at : handed_in (with_seen q v l) q ≡ handed_in l q
  handed_at = get_or-set_other l (pair_marks * q) (pair_marks * q + 1) v 0 (λ e. omega arith)

  pub list_seen : list_in (with_seen q v l) ≡ list_in l
  list_seen = fun_ext (λ k. omega (
    arith,
    get_or-set_other l (pair_marks * q) (pair_marks * k + 2) v 0 (λ e. omega arith),
    get_or-set_other l (pair_marks * q) (pair_marks * k + 3) v 0 (λ e. omega arith),
  ))

  pub handed_set : pair_marks * q + 1 < length l → handed_in (with_handed q v l) ≡ put (handed_in l) q v
  handed_set h = fun_ext (λ p. go p (ℕ_discrete p q))
    where
      go : (p : ℕ) → Dec (p ≡ q) → handed_in (with_handed q v l) p ≡ put (handed_in l) q v p
      go p (yes e) = rw (e, put_same (handed_in l) q v, get_or-set_same l (pair_marks * q + 1) v 0 h)
      go p (no n) = get_or-set_other l (pair_marks * q + 1) (pair_marks * p + 1) v 0 (λ e. n (omega arith)) ∙ sym (put_other (handed_in l) q p v n)

  pub seen_handed : seen_in (with_handed q v l) ≡ seen_in l
  seen_handed = fun_ext (λ p. get_or-set_other l (pair_marks * q + 1) (pair_marks * p) v 0 (λ e. omega arith))

  pub list_handed : list_in (with_handed q v l) ≡ list_in l
  list_handed = fun_ext (λ k. omega (
    arith,
    get_or-set_other l (pair_marks * q + 1) (pair_marks * k + 2) v 0 (λ e. omega arith),
    get_or-set_other l (pair_marks * q + 1) (pair_marks * k + 3) v 0 (λ e. omega arith),
  ))

-- an entry of the list
module _ (k q : ℕ) (l : List ℕ) where
  elsewhere : (i : ℕ) → (i ≡ pair_marks * k + 3 → ⊥) → (i ≡ pair_marks * k + 2 → ⊥) → get_or (with_entry k q l) i 0 ≡ get_or l i 0
  elsewhere i a b =
      get_or-set_other (set l (pair_marks * k + 2) (q % 256)) (pair_marks * k + 3) i (q / 256) 0 a
      ∙ get_or-set_other l (pair_marks * k + 2) i (q % 256) 0 b

  pub list_set : pair_marks * k + 3 < length l → list_in (with_entry k q l) ≡ put (list_in l) k q
  list_set h = fun_ext (λ p. go p (ℕ_discrete p k))
    where
      go : (p : ℕ) → Dec (p ≡ k) → list_in (with_entry k q l) p ≡ put (list_in l) k q p
      go p (yes e) = rw (e, put_same (list_in l) k q) (omega (
        arith,
        get_or-set_other (set l (pair_marks * k + 2) (q % 256)) (pair_marks * k + 3) (pair_marks * k + 2) (q / 256) 0 (λ z. omega arith),
        get_or-set_same l (pair_marks * k + 2) (q % 256) 0 (omega arith),
        get_or-set_same (set l (pair_marks * k + 2) (q % 256)) (pair_marks * k + 3) (q / 256) 0 (rw (length-set l (pair_marks * k + 2) (q % 256)) h),
      ))
      go p (no n) = rw (put_other (list_in l) k p q n) (omega (
        arith,
        elsewhere (pair_marks * p + 2) (λ z. omega arith) (λ z. n (omega arith)),
        elsewhere (pair_marks * p + 3) (λ z. n (omega arith)) (λ z. omega arith),
      ))

  pub seen_list : seen_in (with_entry k q l) ≡ seen_in l
  seen_list = fun_ext (λ p. elsewhere (pair_marks * p) (λ z. omega arith) (λ z. omega arith))

  pub handed_list : handed_in (with_entry k q l) ≡ handed_in l
  handed_list = fun_ext (λ p. elsewhere (pair_marks * p + 1) (λ z. omega arith) (λ z. omega arith))

  pub entry_long : length (with_entry k q l) ≡ length l
  entry_long = length-set (set l (pair_marks * k + 2) (q % 256)) (pair_marks * k + 3) (q / 256) ∙ length-set l (pair_marks * k + 2) (q % 256)

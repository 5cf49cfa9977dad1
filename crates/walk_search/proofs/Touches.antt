-- What a touch keeps and adds: the list stays a list of the pending pairs, what was seen stays seen, and only the depths handed over are new.
use Prim.Native.Nat.{ℕ, ◌+◌, ◌*◌, ◌/◌, ◌%◌, ◌<◌, ◌≤◌}
use mathlib.Core.Path.{◌≡◌, refl, sym, ap, ◌∙◌}
use mathlib.Core.Bool.{Bool, true, false, cond}
use mathlib.Core.Logic.{◌⊎◌, inl, inr, ⊎_elim}
use mathlib.Core.List.{List}
use native.Mathlib.Omega.{arith}
use lib.Bits.{or_zero_r}
use lib.ListN.{length, length-set}
use lib.Dec.{eqb}
use borrow.Author.Tests.{eqb-true, eqb-false, eq-eqb}
use Rattle.limits.specs.Limits.{depths}
use Rattle.walk_graph.specs.Depths.{sets, Has, union}
use Rattle.walk_graph.proofs.Depths.{union_over, union_under, union_left, union_right, union_of}
use Rattle.walk_search.specs.Search.{pair_marks, seen_in, handed_in, list_in, with_seen, with_entry, Listing, listing, touched, Seen, busy, Listed}
use Rattle.walk_search.proofs.Stores.{put, put_same, put_other, at_put, seen_set, handed_seen, list_seen, list_set, seen_list, handed_list, entry_long}
use Rattle.walk_search.proofs.Counts.{odd, odd_same, odd_other, busy_seen, busy_most, busy_room}

-- what a touch of pair q by the depths s gives
pub record Grown (m : ℕ) (hs ss ss' list' : ℕ → ℕ) (n' q s : ℕ) : Type 0 where
  pub listed : Listed m hs ss' list' n'
  pub covers : (e : ℕ) → Has s e → Has (ss' q) e
  pub kept : (p e : ℕ) → Has (ss p) e → Has (ss' p) e
  pub only : (i : ℕ) → Seen ss' i → Seen ss i ⊎ ((i / depths ≡ q) × Has s (i % depths))

module _ (m : ℕ) (hs ss list : ℕ → ℕ) (n : ℕ) (g : Listed m hs ss list n) where
  pub most : n ≤ m
  most = omega (arith, busy_most m hs ss, g.count)

  pub room : (q : ℕ) → q < m → hs q ≡ ss q → n < m
  room q h e = omega (arith, busy_room m hs ss q h e, g.count)

  -- depths that were all seen
  known : (q s : ℕ) → union (ss q) s ≡ ss q → Grown m hs ss ss list n q s
  known q s o = record { listed = g; covers = λ e k. rw o at (union_right (ss q) s e k); kept = λ p e k. k; only = λ i k. inl k }

  module _ (q s : ℕ) (h : q < m) (us : s < sets) (o : union (ss q) s ≡ ss q → ⊥) where
    abbrev new : ℕ
    new = union (ss q) s

    abbrev ss₁ : ℕ → ℕ
    ss₁ = put ss q new

    covered : (e : ℕ) → Has s e → Has (ss₁ q) e
    covered e k = rw (put_same ss q new) (union_right (ss q) s e k)

    kept_all : (p e : ℕ) → Has (ss p) e → Has (ss₁ p) e
    kept_all p e = at_put (λ p v. Has (ss p) e → Has v e) ss q new (union_left (ss q) s e) (λ p n k. k) p

    only_these : (i : ℕ) → Seen ss₁ i → Seen ss i ⊎ ((i / depths ≡ q) × Has s (i % depths))
    only_these i =
        at_put (λ p v. Has v (i % depths) → Has (ss p) (i % depths) ⊎ ((p ≡ q) × Has s (i % depths))) ss q new
        (λ k. ⊎_elim (λ a. inl a) (λ b. inr (refl, b)) (union_of (ss q) s (i % depths) k))
        (λ p n k. inl k)
        (i / depths)

    higher : ss q < new
    higher = omega (arith, union_over (ss q) s, o)

    -- what a touch gives, whether q goes on the list or is on it
    with_list : (list' : ℕ → ℕ) (n' : ℕ) → n' ≡ busy m hs ss₁ → ((k : ℕ) → k < n' → list' k < m) → ((k : ℕ) → k < n' → hs (list' k) < ss₁ (list' k))
        → ((j k : ℕ) → j < k → k < n' → list' j ≡ list' k → ⊥) → Grown m hs ss ss₁ list' n' q s
    with_list list' n' count pairs differ once = record {
      listed = record {
        few = g.few;
        out = at_put (λ p v. m ≤ p → v ≡ 0) ss q new (λ i. absurd (omega arith)) (λ p n i. g.out p i);
        small = at_put (λ p v. v < sets) ss q new (union_under (ss q) s (g.small q) us) (λ p n. g.small p);
        within = at_put (λ p v. hs p ≤ v) ss q new (omega (arith, higher, g.within q)) (λ p n. g.within p);
        count = count;
        pairs = pairs;
        differ = differ;
        once = once;
      };
      covers = covered;
      kept = kept_all;
      only = only_these;
    }

    raise : (p : ℕ) → hs p < ss p → hs p < ss₁ p
    raise = at_put (λ p v. hs p < ss p → hs p < v) ss q new (λ i. omega (arith, higher)) (λ p n i. i)

    counted : busy m hs ss₁ + odd (hs q) (ss q) ≡ busy m hs ss + 1
    counted = busy_seen m hs ss q new h ∙ ap (λ (x : ℕ). busy m hs ss + x) (odd_other (hs q) new (omega (arith, higher, g.within q)))

    more : (hs q ≡ ss q → ⊥) → Grown m hs ss ss₁ list n q s
    more b = with_list list n (omega (arith, counted, odd_other (hs q) (ss q) b, g.count)) g.pairs (λ k i. raise (list k) (g.differ k i)) g.once

    module _ (b : hs q ≡ ss q) where
      before : (j : ℕ) → j < n → put list n q j ≡ list j
      before j i = put_other list n j q (λ e. omega arith)

      at_q : hs q < ss₁ q
      at_q = rw (put_same ss q new) (omega (arith, higher, g.within q))

      push : Grown m hs ss ss₁ (put list n q) (n + 1) q s
      push =
          with_list (put list n q) (n + 1) (omega (arith, counted, odd_same (hs q) (ss q) b, g.count))
          (at_put (λ k v. k < n + 1 → v < m) list n q (λ i. h) (λ k e i. g.pairs k (omega arith)))
          (at_put (λ k v. k < n + 1 → hs v < ss₁ v) list n q (λ i. at_q) (λ k e i. raise (list k) (g.differ k (omega arith))))
          (λ j k. at_put (λ k v. j < k → k < n + 1 → put list n q j ≡ v → ⊥) list n q
          (λ i l e. let f : list j ≡ q = sym (before j i) ∙ e in let d = rw f at (g.differ j i) in omega arith)
          (λ k e i l f. g.once j k i (omega arith) (sym (before j (omega arith)) ∙ f))
          k)

-- ---- in the marks

-- a touch that adds nothing
module _ (q s : ℕ) (l : List ℕ) (n : ℕ) where
  abbrev more_seen : List ℕ
  more_seen = with_seen q (union (seen_in l q) s) l

  pub touch_known : union (seen_in l q) s ≡ seen_in l q → listing l n ≡ touched q s (listing l n)
  unfolding touched
  touch_known e = rw (eq-eqb (union (seen_in l q) s) (seen_in l q) e)

  pub touch_none : s ≡ 0 → listing l n ≡ touched q s (listing l n)
  touch_none e = touch_known (rw e (or_zero_r (seen_in l q)))

-- what it keeps
pub record Touched (m : ℕ) (l : List ℕ) (b : Listing) (q s : ℕ) : Type 0 where
  pub long : length b.marks ≡ length l
  pub handed : handed_in b.marks ≡ handed_in l
  pub grown : Grown m (handed_in l) (seen_in l) (seen_in b.marks) (list_in b.marks) b.pending q s

pub listed_of : {m n : ℕ} {hs hs' ss ss' ws ws' : ℕ → ℕ} → hs' ≡ hs → ss' ≡ ss → ws' ≡ ws → Listed m hs ss ws n → Listed m hs' ss' ws' n
listed_of a b c x = rw (a, b, c) x

grown_of : {m n q s : ℕ} {hs ss ss' ss'' ws ws' : ℕ → ℕ} → ss'' ≡ ss' → ws' ≡ ws → Grown m hs ss ss' ws n q s → Grown m hs ss ss'' ws' n q s
grown_of a b x = rw (a, b) x

module _ (m : ℕ) (l : List ℕ) (n : ℕ) (long : length l ≡ pair_marks * m) (g : Listed m (handed_in l) (seen_in l) (list_in l) n)
    (q s : ℕ) (inside : (s ≡ 0 → ⊥) → q < m) (small : s < sets) where
  pub touch_keeps : Touched m l (touched q s (listing l n)) q s
  unfolding touched
  touch_keeps = go (eqb (union (seen_in l q) s) (seen_in l q)) (eqb (handed_in l q) (seen_in l q)) refl refl
    where
      in_range : (union (seen_in l q) s ≡ seen_in l q → ⊥) → q < m
      in_range o = inside (λ z. o (rw z (or_zero_r (seen_in l q))))

      stored : (union (seen_in l q) s ≡ seen_in l q → ⊥) → seen_in (more_seen q s l n) ≡ put (seen_in l) q (union (seen_in l q) s)
      stored o = seen_set q (union (seen_in l q) s) l (omega (arith, in_range o))

      go : (t u : Bool) → eqb (union (seen_in l q) s) (seen_in l q) ≡ t → eqb (handed_in l q) (seen_in l q) ≡ u
          → Touched m l (cond t (listing l n) (cond u (listing (with_entry n q (more_seen q s l n)) (n + 1)) (listing (more_seen q s l n) n))) q s
      go true u e k = record { long = refl; handed = refl; grown = known m (handed_in l) (seen_in l) (list_in l) n g q s (eqb-true _ _ e) }
      go false true e k =
          let o = eqb-false (union (seen_in l q) s) (seen_in l q) e in
          let r = room m (handed_in l) (seen_in l) (list_in l) n g q (in_range o) (eqb-true (handed_in l q) (seen_in l q) k) in
          let w = length-set l (pair_marks * q) (union (seen_in l q) s) in
          record {
            long = entry_long n q (more_seen q s l n) ∙ w;
            handed = handed_list n q (more_seen q s l n) ∙ handed_seen q (union (seen_in l q) s) l;
            grown =
                grown_of (seen_list n q (more_seen q s l n) ∙ stored o)
                (list_set n q (more_seen q s l n) (omega (arith, r, w)) ∙ ap (λ (f : ℕ → ℕ). put f n q) (list_seen q (union (seen_in l q) s) l))
                (push m (handed_in l) (seen_in l) (list_in l) n g q s (in_range o) small o (eqb-true (handed_in l q) (seen_in l q) k));
          }
      go false false e k =
          let o = eqb-false (union (seen_in l q) s) (seen_in l q) e in
          record {
            long = length-set l (pair_marks * q) (union (seen_in l q) s);
            handed = handed_seen q (union (seen_in l q) s) l;
            grown =
                grown_of (stored o) (list_seen q (union (seen_in l q) s) l)
                (more m (handed_in l) (seen_in l) (list_in l) n g q s (in_range o) small o (eqb-false (handed_in l q) (seen_in l q) k));
          }

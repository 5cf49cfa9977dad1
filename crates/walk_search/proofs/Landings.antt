-- What is handed to the landing blocks: touches one after the other keep what one touch keeps; all depths that are handed over are seen at every landing block
-- afterwards, whether they were new or not, and the depths noted for a task are seen there. Each time that landing blocks are touched a task has a depth more.
use Prim.Native.Nat.{ℕ, zero, suc, ◌+◌, ◌*◌, ◌<◌, ◌≤◌}
use mathlib.Core.Path.{◌≡◌, refl, sym, ◌∙◌}
use mathlib.Core.Bool.{Bool, true, false, cond}
use mathlib.Core.Logic.{◌⊎◌, inl, inr, ⊎_elim}
use mathlib.Core.List.{List, [], ◌∷◌}
use native.Mathlib.Decide.{ℕ_discrete}
use native.Mathlib.Omega.{arith}
use native.Mathlib.Numerals.{add-one}
use lib.ListN.{length, get_or, drop, length-set, drop_of_length-le}
use lib.Seq.{drop-cons, get_or-set_same, get_or-set_other, set-get_or}
use borrow.Author.Tests.{eqb-true, eq-eqb}
use Rattle.limits.specs.Limits.{task_count, depths}
use Rattle.walk.specs.Graph.{In}
use Rattle.walk_graph.specs.Depths.{sets, Has, union}
use Rattle.walk_graph.specs.Onward.{pair_of}
use Rattle.walk_graph.proofs.Depths.{union_over, union_under, union_left, union_right, union_of}
use Rattle.walk_graph.proofs.Handing.{Lands}
use Rattle.walk_search.specs.Search.{pair_marks, seen_in, handed_in, list_in, Listing, listing, touched, Room, touched_each, landed_of, landed_with, all_landed}
use Rattle.walk_search.specs.Search.{landed_on, Seen, Listed, Landed, RoomEach}
use Rattle.walk_search.proofs.Sizes.{size, size_most, size_less}
use Rattle.walk_search.proofs.Counts.{total, total_set, total_most}
use Rattle.walk_search.proofs.Touches.{room, Touched, touch_keeps, listed_of}

-- ---- one touch after the other

-- what they keep
pub record TouchedEach (m : ℕ) (l : List ℕ) (b : Listing) (ls : List ℕ) (t s : ℕ) : Type 0 where
  pub long : length b.marks ≡ length l
  pub handed : handed_in b.marks ≡ handed_in l
  pub listed : Listed m (handed_in l) (seen_in b.marks) (list_in b.marks) b.pending
  pub covers : (a e : ℕ) → In a ls → Has s e → Has (seen_in b.marks (pair_of t a)) e
  pub kept : (p e : ℕ) → Has (seen_in l p) e → Has (seen_in b.marks p) e
  pub only : (i : ℕ) → Seen (seen_in b.marks) i → Seen (seen_in l) i ⊎ Lands ls t s i

module _ (m t s : ℕ) (small : s < sets) where
  pub each_keeps : (ls l : List ℕ) (n : ℕ) → length l ≡ pair_marks * m → Listed m (handed_in l) (seen_in l) (list_in l) n
      → ((a : ℕ) → In a ls → pair_of t a < m) → TouchedEach m l (touched_each ls t s (listing l n)) ls t s
  unfolding touched_each
  each_keeps [] l n long g inside =
      record { long = refl; handed = refl; listed = g; covers = λ a e i k. absurd i; kept = λ p e k. k; only = λ i k. inl k }
  each_keeps (a ∷ ls) l n long g inside = join (each_keeps ls b.marks b.pending (one.long ∙ long) still (λ c i. inside c (inr i)))
    where
      b : Listing
      b = touched (pair_of t a) s (listing l n)

      one : Touched m l b (pair_of t a) s
      one = touch_keeps m l n long g (pair_of t a) s (λ z. inside a (inl refl)) small

      still : Listed m (handed_in b.marks) (seen_in b.marks) (list_in b.marks) b.pending
      still = listed_of one.handed refl refl one.grown.listed

      join : TouchedEach m b.marks (touched_each ls t s b) ls t s → TouchedEach m l (touched_each ls t s b) (a ∷ ls) t s
      join rest = record {
        long = rest.long ∙ one.long;
        handed = rest.handed ∙ one.handed;
        listed = listed_of (sym one.handed) refl refl rest.listed;
        covers = λ c e i k. ⊎_elim (λ q. rw q (rest.kept (pair_of t a) e (one.grown.covers e k))) (λ j. rest.covers c e j k) i;
        kept = λ p e k. rest.kept p e (one.grown.kept p e k);
        only = λ i k. ⊎_elim
            (λ x. ⊎_elim (λ y. inl y) (λ y. inr (record { block = a; member = inl refl; pair = y.0; depth = y.1 })) (one.grown.only i x))
            (λ x. inr (record { block = x.block; member = inr x.member; pair = x.pair; depth = x.depth }))
            (rest.only i k);
      }

-- place by place
pub member : (ls : List ℕ) (i : ℕ) → i < length ls → In (get_or ls i 0) ls
member [] i h = absurd (omega arith)
member (a ∷ ls) zero h = inl refl
member (a ∷ ls) (suc i) h = inr (member ls i (omega arith))

module _ (ls : List ℕ) (t s i : ℕ) (b : Listing) where
  pub each_next : i < length ls → (b' : Listing) → b' ≡ touched (pair_of t (get_or ls i 0)) s b
      → touched_each (drop (i + 1) ls) t s b' ≡ touched_each (drop i ls) t s b
  unfolding touched_each
  each_next h b' e = rw (add-one i, drop-cons ls i 0 h, e)

  pub each_done : length ls ≤ i → b ≡ touched_each (drop i ls) t s b
  unfolding touched_each
  each_done h = rw (drop_of_length-le ls {i = i} h)

-- there is room for each of them
module _ {ls l : List ℕ} {n t s : ℕ} (r : RoomEach ls l n t s) (a : ℕ) (i : In a ls) where
  pub each_room : Room l n (pair_of t a) s
  each_room = record {
    few = omega (arith, r.long, r.listed.few);
    pair = λ e. omega (arith, r.long, r.inside a i);
    entry = λ e k. omega (arith, r.long, room r.pairs (handed_in l) (seen_in l) (list_in l) n r.listed (pair_of t a) (r.inside a i) k);
  }

  -- also after one of them
  pub room_again : (b : Listing) → b ≡ touched (pair_of t a) s (listing l n) → RoomEach ls b.marks b.pending t s
  room_again b e = rw e (let k = touch_keeps r.pairs l n r.long r.listed (pair_of t a) s (λ z. r.inside a i) r.small in record {
    pairs = r.pairs;
    long = k.long ∙ r.long;
    listed = listed_of k.handed refl refl k.grown.listed;
    task = r.task;
    small = r.small;
    inside = r.inside;
  })

-- ---- handed over where one of the depths is new

-- by its test
module _ (ls landed : List ℕ) (t s : ℕ) (b : Listing) where
  pub land_known : union (landed_of landed t) s ≡ landed_of landed t → (b ≡ landed_on ls t s landed b) × (landed ≡ landed_with landed t s)
  unfolding landed_on
  land_known e = (rw (eq-eqb (union (landed_of landed t) s) (landed_of landed t) e), sym (rw e (set-get_or landed t 0)))

-- what is noted stays noted where more is seen
pub landed_kept : {ls landed : List ℕ} {ss ss' : ℕ → ℕ} → ((p e : ℕ) → Has (ss p) e → Has (ss' p) e) → Landed ls landed ss → Landed ls landed ss'
landed_kept kept w = record { long = w.long; small = w.small; seen = λ t d a l k i. kept (pair_of t a) d (w.seen t d a l k i) }

module _ (ls landed l : List ℕ) (n t s : ℕ) (r : RoomEach ls l n t s) (w : Landed ls landed (seen_in l)) where
  abbrev after : Listing
  after = landed_on ls t s landed (listing l n)

  -- nothing is lost: depths that are not handed over now were handed over before
  pub land_keeps : TouchedEach r.pairs l after ls t s
  unfolding landed_on
  land_keeps = go (all_landed landed t s) refl
    where
      go : (x : Bool) → all_landed landed t s ≡ x → TouchedEach r.pairs l (cond x (listing l n) (touched_each ls t s (listing l n))) ls t s
      go true e = record {
        long = refl;
        handed = refl;
        listed = r.listed;
        covers = λ a d i k. w.seen t d a r.task (rw (eqb-true (union (landed_of landed t) s) (landed_of landed t) e) at (union_right (landed_of landed t) s d k)) i;
        kept = λ p e k. k;
        only = λ i k. inl k;
      }
      go false e = each_keeps r.pairs t s r.small ls l n r.long r.listed r.inside

  -- and what is noted is seen
  pub land_noted : Landed ls (landed_with landed t s) (seen_in after.marks)
  land_noted = record {
    long = length-set landed t (union (landed_of landed t) s) ∙ w.long;
    small = λ u. stored (λ x. x < sets) u (λ i. union_under (landed_of landed t) s (w.small t) r.small) (w.small u);
    seen = λ u d a l k i. seen u d a l i k;
  }
    where
      inside : t < length landed
      inside = omega (arith, r.task, w.long)

      stored : (P : ℕ → Type 0) (u : ℕ) → (u ≡ t → P (union (landed_of landed t) s)) → P (landed_of landed u) → P (landed_of (landed_with landed t s) u)
      stored P u same other = go (ℕ_discrete u t)
        where
          go : Dec (u ≡ t) → P (landed_of (landed_with landed t s) u)
          go (yes e) = rw (e, get_or-set_same landed t (union (landed_of landed t) s) 0 inside) (same e)
          go (no n) = rw (get_or-set_other landed t u (union (landed_of landed t) s) 0 n) other

      seen : (u d a : ℕ) → u < task_count → In a ls → Has (landed_of (landed_with landed t s) u) d → Has (seen_in after.marks (pair_of u a)) d
      seen u d a l i = stored (λ x. Has x d → Has (seen_in after.marks (pair_of u a)) d) u
          (λ e k. ⊎_elim
          (λ y. land_keeps.kept (pair_of u a) d (w.seen u d a l (rw e y) i))
          (λ y. rw e (land_keeps.covers a d i y))
          (union_of (landed_of landed t) s d k))
          (λ k. land_keeps.kept (pair_of u a) d (w.seen u d a l k i))

-- ---- how often landing blocks are touched

-- how many depths are noted, of all tasks
abbrev pub noted : List ℕ → ℕ
noted landed = total (λ t. size (landed_of landed t)) task_count

-- never more than there are
pub noted_most : (landed : List ℕ) → noted landed ≤ depths * task_count
noted_most landed = total_most task_count (λ t. size (landed_of landed t)) depths (λ t. size_most (landed_of landed t))

-- and more where landing blocks are touched
pub noted_more : (landed : List ℕ) (t s : ℕ) → length landed ≡ task_count → t < task_count → landed_of landed t < sets → s < sets
    → (union (landed_of landed t) s ≡ landed_of landed t → ⊥) → noted landed < noted (landed_with landed t s)
noted_more landed t s long task small few n =
    let more = size_less (landed_of landed t) (union (landed_of landed t) s) (union_under (landed_of landed t) s small few) (union_left (landed_of landed t) s)
    (omega (arith, union_over (landed_of landed t) s, n)) in
    let sums = total_set task_count (λ u. size (landed_of landed u)) (λ u. size (landed_of (landed_with landed t s) u)) t task
    (λ u d. rw (get_or-set_other landed t u (union (landed_of landed t) s) 0 d)) in
    omega (arith, more, rw (get_or-set_same landed t (union (landed_of landed t) s) 0 (omega arith)) at sums)

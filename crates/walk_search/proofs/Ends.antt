-- A search begins with the first point alone, and ends with what walks reach and the least of it.
use Prim.Native.Nat.{ℕ, zero, suc, ◌+◌, ◌-◌, ◌*◌, ◌/◌, ◌%◌, ◌<◌, ◌≤◌}
use mathlib.Core.Path.{◌≡◌, refl, sym, ap, ◌∙◌}
use mathlib.Core.Bool.{Bool, true, false, cond}
use mathlib.Core.List.{List}
use Rattle.std.proofs.Common.{Option}
use native.Mathlib.Decide.{ℕ_discrete, dec_lt}
use native.Mathlib.Nat.{mul-le-mul}
use native.Mathlib.Omega.{arith}
use lib.ListN.{length, get_or, length-set, replicate, length-replicate, get_or-replicate, get_or-eq_default}
use borrow.Author.Tests.{eqb-true, eqb-false}
use Rattle.limits.specs.Limits.{bias, task_count, most_blocks, most_landings, depths}
use Rattle.logic.proofs.Choice.{clash, test}
use Rattle.walk_flow.specs.Terms.{Terms}
use Rattle.walk.specs.Graph.{In, Reach, has}
use Rattle.walk.specs.Index.{index_of}
use Rattle.walk.specs.Successors.{next_of, WalkBounds}
use Rattle.walk.specs.Verdict.{root_of, reached}
use Rattle.walk.proofs.Membership.{has_in, in_has}
use Rattle.walk.proofs.Verdicts.OfWalks.{exact}
use Rattle.walk_graph.specs.Depths.{sets, digit, Has}
use Rattle.walk_graph.specs.Onward.{pair_of}
use Rattle.walk_graph.specs.declared.Onward.{Onward}
use Rattle.walk_graph.proofs.Depths.{digit_two, none, ground_is, ground_of}
use Rattle.walk_search.specs.Search.{pair_marks, pairs, seen_in, handed_in, list_in, with_seen, fresh, Board, none_landed, beginning, all_landed, landed_with}
use Rattle.walk_search.specs.Search.{onward_from, last_of, listing, visited, visits, lands_by, landing_visits, Seen, Listed, Landed, Sound, Going}
use Rattle.walk_search.specs.Search.{Searched, found}
use Rattle.walk_search.proofs.Stores.{put, put_same, at_put, seen_set, handed_seen, list_seen, list_set, seen_list, handed_list, entry_long}
use Rattle.walk_search.proofs.Counts.{odd_same, odd_other, busy_seen, busy_same, left, left_most}
use Rattle.walk_search.proofs.Touches.{listed_of}
use Rattle.walk_search.proofs.Landings.{land_known, noted, noted_most, noted_more}
use Rattle.walk_search.proofs.Visits.{visit_keeps, visit_less, seen_before, handed₄, depths_some, lands_in, all_handed, all_seen}
use Rattle.walk_search.proofs.Minima.{Minima, minima_visit, minima_begun, minima_are}

-- what holds all through a search
pub record Running (h : Terms) (bs : List ℕ) (b : Board) : Type 0 where
  pub going : Going h bs b.marks b.landed b.found.pending
  pub least : Minima h bs (handed_in b.marks) b.found.foreign b.found.bad

minima_of : (h : Terms) (bs : List ℕ) {hs hs' : ℕ → ℕ} {foreign bad : Option ℕ} → hs' ≡ hs → Minima h bs hs foreign bad → Minima h bs hs' foreign bad
minima_of h bs e x = rw e x

-- ---- the beginning

-- only depth 0 of the first pair is seen, and it is the list's one entry
module _ (next : ℕ → List ℕ) (m first : ℕ) (hs ss list : ℕ → ℕ) (few : m ≤ task_count * most_blocks) (h : first < m)
    (zh : (p : ℕ) → hs p ≡ 0) (zs : (p : ℕ) → ss p ≡ 0) where
  first_seen : Sound next (depths * first) hs (put ss first 1)
  first_seen = record {
    first =
        let e : depths * first / depths ≡ first = omega arith in
        let f : depths * first % depths ≡ 0 = omega arith in
        rw (e, f, put_same ss first 1) ground_is;
    held = λ i k. absurd (none (i % depths) (rw (zh (i / depths)) at k));
    sound = λ i. at_put (λ p v. i / depths ≡ p → Has v (i % depths) → Reach next (depths * first) i) ss first 1
        (λ e k. let z = ground_of (i % depths) k in let f : i ≡ depths * first = omega arith in rw f Reach.begin)
        (λ p n e k. absurd (none (i % depths) (rw (zs p) at k)))
        (i / depths) refl;
    closed = λ i j k to. absurd (none (i % depths) (rw (zh (i / depths)) at k));
  }

  first_listed : Listed m hs (put ss first 1) (put list 0 first) 1
  first_listed = record {
    few = few;
    out = at_put (λ p v. m ≤ p → v ≡ 0) ss first 1 (λ i. absurd (omega arith)) (λ p n i. zs p);
    small = at_put (λ p v. v < sets) ss first 1 (omega arith) (λ p n. omega (arith, zs p));
    within = λ p. omega (arith, zh p);
    count = omega (
      arith,
      busy_seen m hs ss first 1 h,
      busy_same m hs ss (λ p. zh p ∙ sym (zs p)),
      odd_same (hs first) (ss first) (zh first ∙ sym (zs first)),
      odd_other (hs first) 1 (λ e. omega (arith, zh first)),
    );
    pairs = at_put (λ k v. k < 1 → v < m) list 0 first (λ i. h) (λ k n i. absurd (n (omega arith)));
    differ = at_put (λ k v. k < 1 → hs v < put ss first 1 v) list 0 first (λ i. rw (put_same ss first 1) (omega (arith, zh first)))
        (λ k n i. absurd (n (omega arith)));
    once = λ j k i l. omega arith;
  }

sound_of : {next : ℕ → List ℕ} {root root' : ℕ} {hs hs' ss ss' : ℕ → ℕ} → root' ≡ root → hs' ≡ hs → ss' ≡ ss → Sound next root hs ss → Sound next root' hs' ss'
sound_of a b c x = rw (a, b, c) x

zeros : (n k : ℕ) → get_or {A = ℕ} (replicate n 0) k 0 ≡ 0
zeros n k = go (dec_lt k n)
  where
    go : Dec (k < n) → get_or {A = ℕ} (replicate n 0) k 0 ≡ 0
    go (yes h) = get_or-replicate n k 0 0 h
    go (no h) = get_or-eq_default (replicate n 0) 0 (omega (arith, length-replicate {A = ℕ} n 0))

-- nothing is noted of landing blocks
none_landed_lem : (ls : List ℕ) (ss : ℕ → ℕ) → Landed ls none_landed ss
none_landed_lem ls ss = record {
  long = length-replicate {A = ℕ} task_count 0;
  small = λ t. rw (zeros task_count t) (omega arith);
  seen = λ t d a l k i. absurd (none d (rw (zeros task_count t) at k));
}

module _ (h : Terms) (bs : List ℕ) (r : WalkBounds h) where
  abbrev first : ℕ
  first = pair_of bias h.header.start

  abbrev n : ℕ
  n = pair_marks * pairs h

  abbrev clean : List ℕ
  clean = replicate n 0

  root_is : root_of h ≡ depths * first
  unfolding index_of
  root_is = omega arith

  first_in : first < pairs h
  first_in = let b = r.begins in omega arith

  long₁ : length (with_seen first 1 clean) ≡ n
  long₁ = length-set clean (pair_marks * first) 1 ∙ length-replicate {A = ℕ} n 0

  handed_is : handed_in (fresh n first) ≡ handed_in clean
  handed_is = handed_list 0 first (with_seen first 1 clean) ∙ handed_seen first 1 clean

  seen_is : seen_in (fresh n first) ≡ put (seen_in clean) first 1
  seen_is = seen_list 0 first (with_seen first 1 clean) ∙ seen_set first 1 clean (omega (arith, first_in, length-replicate {A = ℕ} n 0))

  list_is : list_in (fresh n first) ≡ put (list_in clean) 0 first
  list_is = list_set 0 first (with_seen first 1 clean) (omega (arith, first_in, long₁)) ∙ ap (λ (f : ℕ → ℕ). put f 0 first) (list_seen first 1 clean)

  few : pairs h ≤ task_count * most_blocks
  few = let b = r.most in omega arith

  pub fresh_long : length (fresh n first) ≡ n
  fresh_long = entry_long 0 first (with_seen first 1 clean) ∙ long₁

  going_begun : Going h bs (fresh n first) none_landed 1
  going_begun = record {
    long = fresh_long;
    lands = none_landed_lem h.landings (seen_in (fresh n first));
    graph = sound_of root_is handed_is seen_is
        (first_seen (next_of h bs) (pairs h) first (handed_in clean) (seen_in clean) (list_in clean) few first_in (λ p. zeros n (pair_marks * p + 1)) (λ p. zeros n
        (pair_marks * p)));
    listed = listed_of handed_is seen_is list_is
        (first_listed (next_of h bs) (pairs h) first (handed_in clean) (seen_in clean) (list_in clean) few first_in (λ p. zeros n (pair_marks * p + 1))
        (λ p. zeros n (pair_marks * p)));
  }

  pub begun : Running h bs (beginning h)
  begun = record {
    going = going_begun;
    least = minima_begun h bs (handed_in (fresh n first)) (λ p. ap (λ (f : ℕ → ℕ). f p) handed_is ∙ zeros n (pair_marks * p + 1));
  }

  -- ---- a visit

  module _ (b : Board) (w : Running h bs b) (some : 0 < b.found.pending) where
    keeps_running : Running h bs (visited h bs b)
    unfolding visited
    keeps_running = record {
      going = visit_keeps h bs r b.marks b.landed b.found.pending w.going some;
      least =
          let p = list_in b.marks (b.found.pending - 1) in
          let d = depths_some h bs r b.marks b.landed b.found.pending w.going some in
          let held = seen_before h bs r b.marks b.landed b.found.pending w.going some in
          minima_of h bs (handed₄ h bs r b.marks b.landed b.found.pending w.going some)
          (minima_visit h bs (handed_in b.marks) p (seen_in b.marks p) (held p) d.0 d.1 b.found.foreign b.found.bad w.least);
    }

    leaves_less : left (pairs h) (handed_in (visited h bs b).marks) < left (pairs h) (handed_in b.marks)
    unfolding visited
    leaves_less = visit_less h bs r b.marks b.landed b.found.pending w.going some

    -- the same of what a visit is found to leave
    pub running_after : (b' : Board) → b' ≡ visited h bs b → Running h bs b'
    running_after b' e = rw e keeps_running

    pub less_after : (b' : Board) → b' ≡ visited h bs b → left (pairs h) (handed_in b'.marks) < left (pairs h) (handed_in b.marks)
    less_after b' e = rw e leaves_less

  -- a search that is not over has made no more visits than there were points to be handed on
  visits_left : (v : ℕ) (b : Board) → Running h bs b → ((k : ℕ) → k < v → 0 < (visits k h bs b).found.pending) → v ≤ left (pairs h) (handed_in b.marks)
  unfolding visits
  visits_left zero b w some = omega arith
  visits_left (suc v) b w some =
      let one = some 0 (omega arith) in
      omega (arith, visits_left v (visited h bs b) (keeps_running b w one) (λ k l. some (suc k) (omega arith)), leaves_less b w one)

  -- so none makes more visits than the image has points
  pub visits_few : (v : ℕ) → ((k : ℕ) → k < v → 0 < (visits k h bs (beginning h)).found.pending) → v ≤ depths * pairs h
  visits_few v some = omega (arith, visits_left v (beginning h) begun some, left_most (pairs h) (handed_in (beginning h).marks))

  -- a visit that touches landing blocks notes a depth more
  notes_more : (b : Board) → Running h bs b → 0 < b.found.pending
      → lands_by (onward_from h bs (last_of b) b) b.landed + noted b.landed ≤ noted (visited h bs b).landed
  unfolding visited
  notes_more b w some = go (all_landed b.landed o.lander o.landing) refl
    where
      o : Onward
      o = onward_from h bs (last_of b) b

      go : (t : Bool) → all_landed b.landed o.lander o.landing ≡ t
          → cond t 0 1 + noted b.landed ≤ noted (landed_with b.landed o.lander o.landing)
      go true e =
          let same = (land_known h.landings b.landed o.lander o.landing (listing b.marks 0) (eqb-true _ _ e)).1 in
          omega (arith, ap noted same)
      go false e =
          let known = w.going.lands in
          let k = lands_in h bs r b.marks b.landed b.found.pending w.going some in
          omega (arith, noted_more b.landed o.lander o.landing known.long k.0 (known.small o.lander) k.1 (eqb-false _ _ e))

  landing_visits_left : (v : ℕ) (b : Board) → Running h bs b → ((k : ℕ) → k < v → 0 < (visits k h bs b).found.pending)
      → landing_visits v h bs b + noted b.landed ≤ depths * task_count
  unfolding visits landing_visits
  landing_visits_left zero b w some = omega (arith, noted_most b.landed)
  landing_visits_left (suc v) b w some =
      let one = some 0 (omega arith) in
      omega (arith, landing_visits_left v (visited h bs b) (keeps_running b w one) (λ k l. some (suc k) (omega arith)), notes_more b w one)

  -- so a search touches landing blocks at most as many times as there are depths of tasks at the most landing blocks (change request 1: 3 x 6 x 64)
  pub landings_few : (v : ℕ) → ((k : ℕ) → k < v → 0 < (visits k h bs (beginning h)).found.pending)
      → landing_visits v h bs (beginning h) * length h.landings ≤ depths * task_count * most_landings
  landings_few v some = mul-le-mul {n₂ = depths * task_count} {m₂ = most_landings} (omega (arith, landing_visits_left v (beginning h) begun some)) r.few

  -- ---- the end

  module _ (b : Board) (w : Running h bs b) (over : b.found.pending ≡ 0) where
    done : Going h bs b.marks b.landed 0
    done = rw over at w.going

    handed_sound : (i : ℕ) → Seen (handed_in b.marks) i → Reach (next_of h bs) (root_of h) i
    handed_sound i k = w.going.graph.sound i (w.going.graph.held i k)

    handed_whole : (i : ℕ) → Reach (next_of h bs) (root_of h) i → Seen (handed_in b.marks) i
    handed_whole i k = rw (all_handed h bs b.marks b.landed done (i / depths)) (all_seen h bs b.marks b.landed done i k)

    pub found_is : b.found ≡ found h bs
    unfolding found
    found_is =
        let m = minima_are h bs r (handed_in b.marks) handed_sound handed_whole b.found.foreign b.found.bad w.least in
        rw (over, m.0, m.1) refl

    pub searched : Searched h bs b.marks
    searched = record {
      long = w.going.long;
      seen = λ i. test (has (reached h bs) i) (λ e. rw e (in_reach i (has_in (reached h bs) i e))) (λ e. rw e (not_reach i e));
      small = w.going.listed.small;
      settled = all_handed h bs b.marks b.landed done;
    }
      where
        in_reach : (i : ℕ) → In i (reached h bs) → Seen (seen_in b.marks) i
        in_reach i k = all_seen h bs b.marks b.landed done i ((exact h bs r).sound i k)

        not_reach : (i : ℕ) → has (reached h bs) i ≡ false → digit (seen_in b.marks (i / depths)) (i % depths) ≡ 0
        not_reach i e = go (ℕ_discrete (digit (seen_in b.marks (i / depths)) (i % depths)) 1)
          where
            go : Dec (Seen (seen_in b.marks) i) → digit (seen_in b.marks (i / depths)) (i % depths) ≡ 0
            go (yes k) = clash (sym (in_has (reached h bs) i ((exact h bs r).whole i (w.going.graph.sound i k))) ∙ e)
            go (no k) = omega (arith, digit_two (seen_in b.marks (i / depths)) (i % depths))

-- A visit keeps what holds all through a search, and leaves less to be handed on; at the end what is seen is what is reached.
use Prim.Native.Nat.{ℕ, ◌+◌, ◌-◌, ◌*◌, ◌/◌, ◌%◌, ◌<◌, ◌≤◌}
use mathlib.Core.Path.{◌≡◌, refl, sym, ◌∙◌}
use mathlib.Core.Logic.{⊎_elim}
use mathlib.Core.List.{List}
use Rattle.std.proofs.Common.{Option}
use native.Mathlib.Decide.{dec_lt}
use native.Mathlib.Omega.{arith}
use lib.ListN.{length, length-set}
use Rattle.limits.specs.Limits.{task_count, depths}
use Rattle.walk_flow.specs.Terms.{Terms}
use Rattle.walk.specs.Graph.{In, Reach}
use Rattle.walk.specs.Index.{index_of}
use Rattle.walk.specs.Successors.{next_of, WalkBounds}
use Rattle.walk.specs.Verdict.{root_of}
use Rattle.walk.proofs.Steps.History.{arrives}
use Rattle.walk_graph.specs.Depths.{sets, Has}
use Rattle.walk_graph.specs.Onward.{pair_of, task_of, block_of, onward_of}
use Rattle.walk_graph.specs.declared.Onward.{Onward}
use Rattle.walk_graph.proofs.Depths.{is_depth, some_depth}
use Rattle.walk_graph.proofs.Handing.{Hands, hands}
use Rattle.walk_search.specs.Search.{pair_marks, pairs, seen_in, handed_in, list_in, with_handed, Listing, listing, touched, Room, board, foreign_with, bad_with}
use Rattle.walk_search.specs.Search.{landed_with, landed_on, visited, Seen, Listed, Landed, RoomEach, Sound, Going}
use Rattle.walk_search.specs.declared.search.Found.{Found}
use Rattle.walk_search.proofs.Sizes.{size_less}
use Rattle.walk_search.proofs.Stores.{put, put_other, at_put, handed_set, seen_handed, list_handed}
use Rattle.walk_search.proofs.Counts.{odd_same, odd_other, busy_handed, busy_none, left, left_less}
use Rattle.walk_search.proofs.Touches.{most, room, Touched, touch_keeps, listed_of}
use Rattle.walk_search.proofs.Landings.{TouchedEach, landed_kept, land_keeps, land_noted}

-- ---- the last pair of the list is taken off, and all that it has seen counts as handed on

module _ (m : ℕ) (hs ss list : ℕ → ℕ) (n : ℕ) (g : Listed m hs ss list n) (some : 0 < n) where
  abbrev last : ℕ
  last = list (n - 1)

  last_in : last < m
  last_in = g.pairs (n - 1) (omega arith)

  ahead : hs last < ss last
  ahead = g.differ (n - 1) (omega arith)

  taken : Listed m (put hs last (ss last)) ss list (n - 1)
  taken = record {
    few = g.few;
    out = g.out;
    small = g.small;
    within = at_put (λ q v. v ≤ ss q) hs last (ss last) (omega arith) (λ q e. g.within q);
    count = omega (
      arith,
      busy_handed m hs ss last (ss last) last_in,
      odd_other (hs last) (ss last) (λ e. omega (arith, ahead)),
      odd_same (ss last) (ss last) refl,
      g.count,
    );
    pairs = λ k i. g.pairs k (omega arith);
    differ = λ k i. rw (put_other hs last (list k) (ss last) (λ e. g.once k (n - 1) i (omega arith) e)) (g.differ k (omega arith));
    once = λ j k i l. g.once j k i (omega arith);
  }

has_by : (q d : ℕ) {f f' : ℕ → ℕ} → f ≡ f' → Has (f q) d → Has (f' q) d
has_by q d e k = rw (← e) k

-- ---- a visit

module _ (h : Terms) (bs : List ℕ) (r : WalkBounds h) (l landed : List ℕ) (n : ℕ) (g : Going h bs l landed n) (some : 0 < n) where
  abbrev m : ℕ
  m = pairs h

  -- the pair, the depths that it has seen, and what it hands on
  abbrev p : ℕ
  p = list_in l (n - 1)

  abbrev t : ℕ
  t = seen_in l p

  abbrev o : Onward
  o = onward_of h bs (task_of p) (block_of p) t

  pub pair_in : p < m
  pair_in = last_in m (handed_in l) (seen_in l) (list_in l) n g.listed some

  pub not_all : n ≤ m
  not_all = most m (handed_in l) (seen_in l) (list_in l) n g.listed

  pub depths_some : (0 < t) × (t < sets)
  depths_some = (omega (arith, ahead m (handed_in l) (seen_in l) (list_in l) n g.listed some), g.listed.small p)

  handing : Hands (next_of h bs) h.landings p t o.named o.into (p + task_count) o.behind o.lander o.landing
  handing = hands h bs p t depths_some.1

  from : (d : ℕ) → d < depths → Has t d → Reach (next_of h bs) (root_of h) (depths * p + d)
  from d i k =
      let e : (depths * p + d) / depths ≡ p = omega arith in
      let f : (depths * p + d) % depths ≡ d = omega arith in
      g.graph.sound (depths * p + d) (rw (e, f) k)

  -- a pair that is handed depths is one of the image's
  reached_pair : (i : ℕ) → Reach (next_of h bs) (root_of h) i → i / depths < m
  unfolding index_of
  reached_pair i w =
      let a = arrives h bs r i w in
      let b = a.within.block in
      let c = a.within.task in
      let d = a.within.depth in
      let e = a.number in
      omega arith

  into_reached : (e : ℕ) → Has o.into e → Reach (next_of h bs) (root_of h) (depths * o.named + e)
  into_reached e k = let w = handing.a_sound e k in Reach.step (depths * p + w.0) _ (from w.0 w.1 w.2) w.3

  behind_reached : (e : ℕ) → Has o.behind e → Reach (next_of h bs) (root_of h) (depths * (p + task_count) + e)
  behind_reached e k = let w = handing.b_sound e k in Reach.step (depths * p + w.0) _ (from w.0 w.1 w.2) w.3

  -- a task that is handed depths at the landing blocks
  pub lands_in : (o.lander < task_count) × (o.landing < sets)
  lands_in = (handing.t_task, handing.t_set)

  landing_reached : (c e : ℕ) → In c h.landings → Has o.landing e → Reach (next_of h bs) (root_of h) (depths * pair_of o.lander c + e)
  landing_reached c e i k = let w = handing.t_sound c i e k in Reach.step (depths * p + w.0) _ (from w.0 w.1 w.2) w.3

  pair_of_set : (a u : ℕ) → u < sets → ((e : ℕ) → Has u e → Reach (next_of h bs) (root_of h) (depths * a + e)) → (u ≡ 0 → ⊥) → a < m
  pair_of_set a u small w n =
      let d = some_depth u (omega arith) small in
      let i = reached_pair (depths * a + d.0) (w d.0 d.2) in
      let k = d.1 in
      omega arith

  named_in : (o.into ≡ 0 → ⊥) → o.named < m
  named_in = pair_of_set o.named o.into handing.a_set into_reached

  behind_in : (o.behind ≡ 0 → ⊥) → p + task_count < m
  behind_in = pair_of_set (p + task_count) o.behind handing.b_set behind_reached

  landing_in : (c : ℕ) → In c h.landings → pair_of o.lander c < m
  landing_in c i = omega (arith, r.below c i, handing.t_task)

  -- the marks once the pair is taken off the list
  abbrev l₁ : List ℕ
  l₁ = with_handed p t l

  handed₁ : handed_in l₁ ≡ put (handed_in l) p t
  handed₁ = handed_set p t l (let e = g.long in omega (arith, pair_in))

  long₁ : length l₁ ≡ pair_marks * m
  long₁ = length-set l (pair_marks * p + 1) t ∙ g.long

  listed₁ : Listed m (handed_in l₁) (seen_in l₁) (list_in l₁) (n - 1)
  listed₁ =
      listed_of handed₁ (seen_handed p t l) (list_handed p t l)
      (taken m (handed_in l) (seen_in l) (list_in l) n g.listed some)

  -- after the touches of the named pair and the pair behind
  abbrev b₂ : Listing
  b₂ = touched o.named o.into (listing l₁ (n - 1))

  touched₂ : Touched m l₁ b₂ o.named o.into
  touched₂ = touch_keeps m l₁ (n - 1) long₁ listed₁ o.named o.into named_in handing.a_set

  long₂ : length b₂.marks ≡ pair_marks * m
  long₂ = touched₂.long ∙ long₁

  listed₂ : Listed m (handed_in b₂.marks) (seen_in b₂.marks) (list_in b₂.marks) b₂.pending
  listed₂ = listed_of touched₂.handed refl refl touched₂.grown.listed

  -- there is room for both
  room₁ : Room l₁ (n - 1) o.named o.into
  room₁ = record {
    few = omega (arith, long₁, g.listed.few);
    pair = λ e. omega (arith, long₁, named_in e);
    entry = λ e i. omega (arith, long₁, room m (handed_in l₁) (seen_in l₁) (list_in l₁) (n - 1) listed₁ o.named (named_in e) i);
  }

  room₂ : Room b₂.marks b₂.pending (p + task_count) o.behind
  room₂ = record {
    few = omega (arith, long₂, g.listed.few);
    pair = λ e. omega (arith, long₂, behind_in e);
    entry = λ e i.
        omega (arith, long₂, room m (handed_in b₂.marks) (seen_in b₂.marks) (list_in b₂.marks) b₂.pending listed₂ (p + task_count) (behind_in e) i);
  }

  abbrev b₃ : Listing
  b₃ = touched (p + task_count) o.behind b₂

  touched₃ : Touched m b₂.marks b₃ (p + task_count) o.behind
  touched₃ = touch_keeps m b₂.marks b₂.pending long₂ listed₂ (p + task_count) o.behind behind_in handing.b_set

  listed₃ : Listed m (handed_in b₃.marks) (seen_in b₃.marks) (list_in b₃.marks) b₃.pending
  listed₃ = listed_of touched₃.handed refl refl touched₃.grown.listed

  -- what was seen stays seen
  stays₃ : (q d : ℕ) → Has (seen_in l q) d → Has (seen_in b₃.marks q) d
  stays₃ q d k = touched₃.grown.kept q d (touched₂.grown.kept q d (has_by q d (sym (seen_handed p t l)) k))

  -- and after the landing blocks: there is room for them, and what is noted of them is seen
  room₄ : RoomEach h.landings b₃.marks b₃.pending o.lander o.landing
  room₄ = record {
    pairs = m;
    long = touched₃.long ∙ long₂;
    listed = listed₃;
    task = handing.t_task;
    small = handing.t_set;
    inside = landing_in;
  }

  landed₃ : Landed h.landings landed (seen_in b₃.marks)
  landed₃ = landed_kept stays₃ g.lands

  abbrev b₄ : Listing
  b₄ = landed_on h.landings o.lander o.landing landed b₃

  touched₄ : TouchedEach m b₃.marks b₄ h.landings o.lander o.landing
  unfolding room₄
  touched₄ = land_keeps h.landings landed b₃.marks b₃.pending o.lander o.landing room₄ landed₃

  pub handed₄ : handed_in b₄.marks ≡ put (handed_in l) p t
  handed₄ = touched₄.handed ∙ touched₃.handed ∙ touched₂.handed ∙ handed₁

  -- what was seen stays seen, and what is new was handed on
  stays : (q d : ℕ) → Has (seen_in l q) d → Has (seen_in b₄.marks q) d
  stays q d k = touched₄.kept q d (stays₃ q d k)

  new : (i : ℕ) → Seen (seen_in b₄.marks) i → Reach (next_of h bs) (root_of h) i
  new i k =
      ⊎_elim
      (λ x. ⊎_elim
      (λ y. ⊎_elim
      (λ z. g.graph.sound i (has_by (i / depths) (i % depths) (seen_handed p t l) z))
      (λ z. let e = z.0 in let f : depths * o.named + i % depths ≡ i = omega arith in rw f at (into_reached (i % depths) z.1))
      (touched₂.grown.only i y))
      (λ y. let e = y.0 in let f : depths * (p + task_count) + i % depths ≡ i = omega arith in rw f at (behind_reached (i % depths) y.1))
      (touched₃.grown.only i x))
      (λ x.
      let e = x.pair in
      let f : depths * pair_of o.lander x.block + i % depths ≡ i = omega arith in
      rw f at (landing_reached x.block (i % depths) x.member x.depth))
      (touched₄.only i k)

  handed_whole : (d : ℕ) → Has t d → (j : ℕ) → In j (next_of h bs (depths * p + d)) → Seen (seen_in b₄.marks) j
  handed_whole d k j to =
      ⊎_elim
      (λ x. rw x.0 (touched₄.kept _ (j % depths) (touched₃.grown.kept _ (j % depths) (touched₂.grown.covers (j % depths) x.1))))
      (λ x. ⊎_elim
      (λ y. rw y.0 (touched₄.kept _ (j % depths) (touched₃.grown.covers (j % depths) y.1)))
      (λ y. rw y.pair (touched₄.covers y.block (j % depths) y.member y.depth))
      x)
      (handing.whole d k j to)

  graph₄ : Sound (next_of h bs) (root_of h) (put (handed_in l) p t) (seen_in b₄.marks)
  graph₄ = record {
    first = stays (root_of h / depths) (root_of h % depths) g.graph.first;
    held = λ i. at_put (λ q w. i / depths ≡ q → Has w (i % depths) → Seen (seen_in b₄.marks) i) (handed_in l) p t
        (λ e k. stays (i / depths) (i % depths) (rw e k))
        (λ q d e k. stays (i / depths) (i % depths) (g.graph.held i (rw e k)))
        (i / depths) refl;
    sound = new;
    closed = λ i j. at_put (λ q w. i / depths ≡ q → Has w (i % depths) → In j (next_of h bs i) → Seen (seen_in b₄.marks) j) (handed_in l) p t
        (λ e k to. let f : i ≡ depths * p + i % depths = omega arith in handed_whole (i % depths) k j (rw f at to))
        (λ q d e k to. stays (j / depths) (j % depths) (g.graph.closed i j (rw e k) to))
        (i / depths) refl;
  }

  pub visit_keeps : Going h bs b₄.marks (landed_with landed o.lander o.landing) b₄.pending
  visit_keeps = record {
    long = touched₄.long ∙ touched₃.long ∙ long₂;
    lands = land_noted h.landings landed b₃.marks b₃.pending o.lander o.landing room₄ landed₃;
    graph = rw handed₄ graph₄;
    listed = listed_of touched₄.handed refl refl touched₄.listed;
  }

  -- what a pair has handed on it has seen
  pub seen_before : (q d : ℕ) → Has (handed_in l q) d → Has (seen_in l q) d
  seen_before q d k = go (is_depth (handed_in l q) d (let a = g.listed.within q in let s = g.listed.small q in omega arith) k)
    where
      go : d < depths → Has (seen_in l q) d
      go i =
          let e : (depths * q + d) / depths ≡ q = omega arith in
          let f : (depths * q + d) % depths ≡ d = omega arith in
          rw (e, f) at (g.graph.held (depths * q + d) (rw (e, f) k))

  pub visit_less : left m (handed_in b₄.marks) < left m (handed_in l)
  visit_less =
      rw handed₄ (left_less m (handed_in l) p t pair_in
      (size_less (handed_in l p) t (g.listed.small p) (seen_before p) (ahead m (handed_in l) (seen_in l) (list_in l) n g.listed some)))

  -- of what is found to be the pair, what it hands on, and what the touches leave
  module _ (p' : ℕ) (o' : Onward) (pair_is : p' ≡ p) (onward-is : o' ≡ onward_of h bs (task_of p') (block_of p') (seen_in l p')) where
    pub first_room : Room (with_handed p' (seen_in l p') l) (n - 1) o'.named o'.into
    first_room = rw (onward-is, pair_is) room₁

    pub second_room : (b : Listing) → b ≡ touched o'.named o'.into (listing (with_handed p' (seen_in l p') l) (n - 1))
        → Room b.marks b.pending (p' + task_count) o'.behind
    second_room b e = rw (e, onward-is, pair_is) room₂

    pub landing_room : (b b' : Listing) → b ≡ touched o'.named o'.into (listing (with_handed p' (seen_in l p') l) (n - 1))
        → b' ≡ touched (p' + task_count) o'.behind b → RoomEach h.landings b'.marks b'.pending o'.lander o'.landing
    landing_room b b' e i = rw (i, e, onward-is, pair_is) room₄

-- the visit that is found is the definition's
pub visit_is : (h : Terms) (bs l landed landed' : List ℕ) (f : Found) (p : ℕ) (o : Onward) (b b' b'' : Listing) (foreign bad : Option ℕ)
    → p ≡ list_in l (f.pending - 1) → o ≡ onward_of h bs (task_of p) (block_of p) (seen_in l p)
    → b ≡ touched o.named o.into (listing (with_handed p (seen_in l p) l) (f.pending - 1)) → b' ≡ touched (p + task_count) o.behind b
    → b'' ≡ landed_on h.landings o.lander o.landing landed b' → landed' ≡ landed_with landed o.lander o.landing
    → foreign ≡ foreign_with o.foreign (block_of p) f.foreign → bad ≡ bad_with o.bad p f.bad
    → board b''.marks landed' (record { pending = b''.pending; foreign = foreign; bad = bad }) ≡ visited h bs (board l landed f)
unfolding visited
visit_is h bs l landed landed' f p o b b' b'' foreign bad e i j k m n x y = rw (x, y, n, m, k, j, i, e)

-- ---- the end: all was handed on, and what is seen is what is reached

module _ (h : Terms) (bs l landed : List ℕ) (g : Going h bs l landed 0) where
  pub all_handed : (p : ℕ) → handed_in l p ≡ seen_in l p
  all_handed p = go (dec_lt p (pairs h))
    where
      go : Dec (p < pairs h) → handed_in l p ≡ seen_in l p
      go (yes k) = busy_none (pairs h) (handed_in l) (seen_in l) (sym g.listed.count) p k
      go (no k) = omega (arith, g.listed.out p (omega arith), g.listed.within p)

  pub all_seen : (i : ℕ) → Reach (next_of h bs) (root_of h) i → Seen (seen_in l) i
  all_seen i Reach.begin = g.graph.first
  all_seen i (Reach.step o j w to) = g.graph.closed o i (rw (all_handed (o / depths)) (all_seen o w)) to

-- What a pair hands on is what follows it: the points that follow those of pair p at depths s are those of the named pair at the depths handed to it,
-- those of the pair behind at the depths handed to that, and those of a task at every landing block at the depths handed to these; the bad depths are those
-- of the bad points, and a 51 is foreign at all depths or none.
use Rattle.std.specs.Prelude.{Ok, Err}
use Prim.Native.Nat.{ℕ, zero, suc, ◌+◌, ◌-◌, ◌*◌, ◌/◌, ◌%◌, ◌<◌}
use mathlib.Core.Path.{◌≡◌, refl, sym, ap, ◌∙◌}
use mathlib.Core.Bool.{Bool, true, false, cond}
use mathlib.Core.Logic.{◌⊎◌, inl, inr, ⊎_elim}
use mathlib.Core.List.{List, [], ◌∷◌}
use native.Mathlib.Omega.{arith}
use lib.Dec.{eqb}
use borrow.Author.Tests.{leb-false, eqb-true, eqb-false}
use Rattle.limits.specs.Limits.{task_count, most_depth, depths}
use Rattle.logic.proofs.Choice.{clash, test, either}
use Rattle.command_operands.specs.declared.Command.{Command}
use Rattle.walk_flow.specs.Terms.{Terms}
use Rattle.walk_flow.specs.Flow.{flow_of, continues}
use Rattle.walk_flow.specs.Permission.{foreign, permitted}
use Rattle.walk_flow.specs.declared.Flow.{Flow}
use Rattle.walk_flow.specs.declared.Flow.TheVariants.{Next, Wait, Jump, Branch, Call, Return, Start, Restart, End, ComputedJump, ComputedStart}
use Rattle.walk_fault.specs.Fault.{is_foreign, is_bad}
use Rattle.walk_fault.specs.Fault.{FaultResult}
use Rattle.walk_fault.specs.declared.Fault.TheVariants.{Foreign, Forbidden, TooDeep, NoCall, PastEnd}
use Rattle.walk_point.specs.PointFault.{point, too_deep, no_call, any_past, flow_fault, fault_of}
use Rattle.walk_point.specs.declared.Point.{Point}
use Rattle.walk.specs.Blocks.{command_at, fault_at}
use Rattle.walk.specs.Index.{index_of, point_at}
use Rattle.walk.specs.Graph.{In}
use Rattle.walk.specs.Successors.{each_at, beyond, leads_to, unless, flow_at, successors, indices, next_of}
use Rattle.walk.proofs.Points.Within.{Small, small_flow}
use Rattle.walk.proofs.Steps.History.{index_in, indexed}
use Rattle.walk.proofs.Steps.Moves.{each_in, in_each}
use Rattle.walk_graph.specs.Depths.{sets, Has, ground}
use Rattle.walk_graph.specs.Onward.{pair_of, task_of, block_of, onward_foreign, onward_none, broken, handed_on, flow_onward, command_onward, onward_of}
use Rattle.walk_graph.specs.declared.Onward.{Onward}
use Rattle.walk_graph.proofs.Depths.{none, is_depth, deeper_has, deeper_none, deeper_of, ground_is, ground_of, some_depth}
use Rattle.walk_graph.proofs.BadDepths.{broken_within, fault_by, split}

-- point q is of task t at one of these landing blocks, at a depth of w
pub record Lands (landings : List ℕ) (t w q : ℕ) : Type 0 where
  pub block : ℕ
  pub member : In block landings
  pub pair : q / depths ≡ pair_of t block
  pub depth : Has w (q % depths)

-- the points that follow those of pair p at depths s are those of pair a at depths u, of pair b at depths v, and of task t at every landing block at depths w
pub record Hands (next : ℕ → List ℕ) (landings : List ℕ) (p s a u b v t w : ℕ) : Type 0 where
  pub a_set : u < sets
  pub b_set : v < sets
  pub t_task : t < task_count
  pub t_set : w < sets
  pub a_sound : (e : ℕ) → Has u e → (d : ℕ) × (d < depths) × Has s d × In (depths * a + e) (next (depths * p + d))
  pub b_sound : (e : ℕ) → Has v e → (d : ℕ) × (d < depths) × Has s d × In (depths * b + e) (next (depths * p + d))
  pub t_sound : (c : ℕ) → In c landings → (e : ℕ) → Has w e → (d : ℕ) × (d < depths) × Has s d × In (depths * pair_of t c + e) (next (depths * p + d))
  pub whole : (d : ℕ) → Has s d → (q : ℕ) → In q (next (depths * p + d))
      → ((q / depths ≡ a) × Has u (q % depths)) ⊎ (((q / depths ≡ b) × Has v (q % depths)) ⊎ Lands landings t w q)

-- ---- a flow

-- a point is of pair a, at a depth of u
abbrev OfPair : Point → ℕ → ℕ → Type 0
OfPair q a u = (pair_of q.task q.block ≡ a) × ((q.depth < depths) × Has u q.depth)

-- a point is of task t at one of these landing blocks, at a depth of w
pub record OfLanding (ls : List ℕ) (q : Point) (t w : ℕ) : Type 0 where
  pub landing : ℕ
  pub member : In landing ls
  pub of_pair : OfPair q (pair_of t landing) w

-- a point is one of those that are handed on
abbrev OneOf : List ℕ → ℕ → ℕ → Onward → Point → Type 0
OneOf ls task block o q = OfPair q o.named o.into ⊎ (OfPair q (pair_of task (block + 1)) o.behind ⊎ OfLanding ls q o.lander o.landing)

-- a point of pair a and depth e is led to from some depth of g
record Led (ls : List ℕ) (task block : ℕ) (f : Flow) (g a e : ℕ) : Type 0 where
  from : ℕ
  has : Has g from
  at : Point
  member : In at (leads_to ls (point task block from) f)
  pair : pair_of at.task at.block ≡ a
  depth : at.depth ≡ e

module _ (ls : List ℕ) (task block : ℕ) (bad g : ℕ) (small : g < sets) where
  abbrev on : Flow → Onward
  on f = handed_on task f bad g

  abbrev pair_behind : ℕ
  pair_behind = pair_of task (block + 1)

  -- what a flow leads to from a depth of g is handed on
  behind_is : (q : Point) (d : ℕ) → Has g d → q ≡ beyond (point task block d) → OfPair q pair_behind g
  behind_is q d h e = rw e (refl, (is_depth g d small h, h))

  named_is : (q : Point) (a d : ℕ) → Has g d → q ≡ point task a d → OfPair q (pair_of task a) g
  named_is q a d h e = rw e (refl, (is_depth g d small h, h))

  started_is : (q : Point) (u a d : ℕ) → Has g d → q ≡ point u a 0 → OfPair q (pair_of u a) (ground g)
  started_is q u a d h e =
      let z : eqb g 0 ≡ false = test (eqb g 0) (λ t. absurd (none d (rw (eqb-true g 0 t) at h))) (λ t. t) in
      rw (e, z) (refl, (omega arith, ground_is))

  leads : (f : Flow) (q : Point) (d : ℕ) → Has g d → too_deep f d ≡ false → In q (leads_to ls (point task block d) f) → OneOf ls task block (on f) q
  leads Next q d h k (inl e) = inr (inl (behind_is q d h e))
  leads Next q d h k (inr m) = absurd m
  leads Wait q d h k (inl e) = inr (inl (behind_is q d h e))
  leads Wait q d h k (inr m) = absurd m
  leads (Jump a) q d h k (inl e) = inl (named_is q a d h e)
  leads (Jump a) q d h k (inr m) = absurd m
  leads (Branch a) q d h k (inl e) = inl (named_is q a d h e)
  leads (Branch a) q d h k (inr (inl e)) = inr (inl (behind_is q d h e))
  leads (Branch a) q d h k (inr (inr m)) = absurd m
  leads (Call a) q d h k (inl e) = let l = leb-false most_depth d k in inl (rw e (refl, (omega arith, deeper_has g d l h)))
  leads (Call a) q d h k (inr (inl e)) = inr (inl (behind_is q d h e))
  leads (Call a) q d h k (inr (inr m)) = absurd m
  leads Return q d h k m = absurd m
  leads (Start u a) q d h k m = go (eqb u task) m
    where
      go : (t : Bool) → In q (cond t (point u a 0 ∷ []) (point u a 0 ∷ beyond (point task block d) ∷ []))
          → OfPair q (pair_of u a) (ground g) ⊎ (OfPair q pair_behind (cond t 0 g) ⊎ OfLanding ls q 0 0)
      go true (inl e) = inl (started_is q u a d h e)
      go true (inr m) = absurd m
      go false (inl e) = inl (started_is q u a d h e)
      go false (inr (inl e)) = inr (inl (behind_is q d h e))
      go false (inr (inr m)) = absurd m
  leads Restart q d h k m = absurd m
  leads End q d h k m = absurd m
  leads ComputedJump q d h k m =
      let w = in_each task d ls q m in
      inr (inr (record { landing = w.block; member = w.member; of_pair = named_is q w.block d h w.is }))
  leads (ComputedStart u) q d h k m = go (eqb u task) m
    where
      landed : In q (each_at u 0 ls) → OfLanding ls q u (ground g)
      landed m =
          let w = in_each u 0 ls q m in
          record { landing = w.block; member = w.member; of_pair = started_is q u w.block d h w.is }

      go : (t : Bool) → In q (cond t (each_at u 0 ls) (beyond (point task block d) ∷ each_at u 0 ls))
          → OfPair q 0 0 ⊎ (OfPair q pair_behind (cond t 0 g) ⊎ OfLanding ls q u (ground g))
      go true m = inr (inr (landed m))
      go false (inl e) = inr (inl (behind_is q d h e))
      go false (inr m) = inr (inr (landed m))

  -- and what is handed on is led to
  named_led : (f : Flow) (a e : ℕ) → Has g e → In (point task a e) (leads_to ls (point task block e) f) → Led ls task block f g (pair_of task a) e
  named_led f a e h m = record { from = e; has = h; at = point task a e; member = m; pair = refl; depth = refl }

  started_led : (f : Flow) (u a e : ℕ) → Has (ground g) e → ((d : ℕ) → In (point u a 0) (leads_to ls (point task block d) f)) → Led ls task block f g (pair_of u a) e
  started_led f u a e h m = go (eqb g 0) refl h
    where
      go : (t : Bool) → eqb g 0 ≡ t → Has (cond t 0 1) e → Led ls task block f g (pair_of u a) e
      go true z k = absurd (none e k)
      go false z k =
          let n = eqb-false g 0 z in
          let w = some_depth g (omega arith) small in
          record { from = w.0; has = w.2; at = point u a 0; member = m w.0; pair = refl; depth = sym (ground_of e k) }

  into_led : (f : Flow) (e : ℕ) → Has (on f).into e → Led ls task block f g (on f).named e
  into_led Next e h = absurd (none e h)
  into_led Wait e h = absurd (none e h)
  into_led (Jump a) e h = named_led (Jump a) a e h (inl refl)
  into_led (Branch a) e h = named_led (Branch a) a e h (inl refl)
  into_led (Call a) zero h = absurd (deeper_none g h)
  into_led (Call a) (suc e) h = record {
    from = e;
    has = (deeper_of g e h).1;
    at = point task a (e + 1);
    member = inl refl;
    pair = refl;
    depth = omega arith;
  }
  into_led Return e h = absurd (none e h)
  into_led (Start u a) e h = started_led (Start u a) u a e h (λ d. first (eqb u task) (point u a 0) [] (beyond (point task block d) ∷ []))
    where
      first : (t : Bool) (x : Point) (ys zs : List Point) → In x (cond t (x ∷ ys) (x ∷ zs))
      first true x ys zs = inl refl
      first false x ys zs = inl refl
  into_led Restart e h = absurd (none e h)
  into_led End e h = absurd (none e h)
  into_led ComputedJump e h = absurd (none e h)
  into_led (ComputedStart u) e h = absurd (none e h)

  next_led : (f : Flow) (e : ℕ) → Has g e → In (beyond (point task block e)) (leads_to ls (point task block e) f) → Led ls task block f g pair_behind e
  next_led f e h m = record { from = e; has = h; at = beyond (point task block e); member = m; pair = refl; depth = refl }

  behind_led : (f : Flow) (e : ℕ) → Has (on f).behind e → Led ls task block f g pair_behind e
  behind_led Next e h = next_led Next e h (inl refl)
  behind_led Wait e h = next_led Wait e h (inl refl)
  behind_led (Jump a) e h = absurd (none e h)
  behind_led (Branch a) e h = next_led (Branch a) e h (inr (inl refl))
  behind_led (Call a) e h = next_led (Call a) e h (inr (inl refl))
  behind_led Return e h = absurd (none e h)
  behind_led (Start u a) e h = go (eqb u task) refl h
    where
      go : (t : Bool) → eqb u task ≡ t → Has (cond t 0 g) e → Led ls task block (Start u a) g pair_behind e
      go true z k = absurd (none e k)
      go false z k = next_led (Start u a) e k (rw z (inr (inl refl)))
  behind_led Restart e h = absurd (none e h)
  behind_led End e h = absurd (none e h)
  behind_led ComputedJump e h = absurd (none e h)
  behind_led (ComputedStart u) e h = go (eqb u task) refl h
    where
      go : (t : Bool) → eqb u task ≡ t → Has (cond t 0 g) e → Led ls task block (ComputedStart u) g pair_behind e
      go true z k = absurd (none e k)
      go false z k = next_led (ComputedStart u) e k (rw z (inl refl))

  landing_led : (f : Flow) (a e : ℕ) → In a ls → Has (on f).landing e → Led ls task block f g (pair_of (on f).lander a) e
  landing_led Next a e i h = absurd (none e h)
  landing_led Wait a e i h = absurd (none e h)
  landing_led (Jump b) a e i h = absurd (none e h)
  landing_led (Branch b) a e i h = absurd (none e h)
  landing_led (Call b) a e i h = absurd (none e h)
  landing_led Return a e i h = absurd (none e h)
  landing_led (Start u b) a e i h = absurd (none e h)
  landing_led Restart a e i h = absurd (none e h)
  landing_led End a e i h = absurd (none e h)
  landing_led ComputedJump a e i h = named_led ComputedJump a e h (each_in task e ls a i)
  landing_led (ComputedStart u) a e i h = started_led (ComputedStart u) u a e h (λ d. there (eqb u task) (beyond (point task block d)))
    where
      there : (t : Bool) (x : Point) → In (point u a 0) (cond t (each_at u 0 ls) (x ∷ each_at u 0 ls))
      there true x = each_in u 0 ls a i
      there false x = inr (each_in u 0 ls a i)

  -- the sets stay small
  ground_small : ground g < sets
  ground_small = either (λ (s : ℕ). s < sets) (eqb g 0) (omega arith) (omega arith)

  other_small : (u : ℕ) → cond (eqb u task) 0 g < sets
  other_small u = either (λ (s : ℕ). s < sets) (eqb u task) (omega arith) small

  into_small : (f : Flow) → (on f).into < sets
  into_small Next = omega arith
  into_small Wait = omega arith
  into_small (Jump a) = small
  into_small (Branch a) = small
  into_small (Call a) = omega arith
  into_small Return = omega arith
  into_small (Start u a) = ground_small
  into_small Restart = omega arith
  into_small End = omega arith
  into_small ComputedJump = omega arith
  into_small (ComputedStart u) = omega arith

  behind_small : (f : Flow) → (on f).behind < sets
  behind_small Next = small
  behind_small Wait = small
  behind_small (Jump a) = omega arith
  behind_small (Branch a) = small
  behind_small (Call a) = small
  behind_small Return = omega arith
  behind_small (Start u a) = other_small u
  behind_small Restart = omega arith
  behind_small End = omega arith
  behind_small ComputedJump = omega arith
  behind_small (ComputedStart u) = other_small u

  landing_small : (f : Flow) → (on f).landing < sets
  landing_small Next = omega arith
  landing_small Wait = omega arith
  landing_small (Jump a) = omega arith
  landing_small (Branch a) = omega arith
  landing_small (Call a) = omega arith
  landing_small Return = omega arith
  landing_small (Start u a) = omega arith
  landing_small Restart = omega arith
  landing_small End = omega arith
  landing_small ComputedJump = small
  landing_small (ComputedStart u) = ground_small

  -- a task that lands is one of the three
  lander_small : (f : Flow) → Small f → task < task_count → (on f).lander < task_count
  lander_small Next n i = omega arith
  lander_small Wait n i = omega arith
  lander_small (Jump a) n i = omega arith
  lander_small (Branch a) n i = omega arith
  lander_small (Call a) n i = omega arith
  lander_small Return n i = omega arith
  lander_small (Start u a) n i = omega arith
  lander_small Restart n i = omega arith
  lander_small End n i = omega arith
  lander_small ComputedJump n i = i
  lander_small (ComputedStart u) n i = n

  -- a flow alone says neither that a 51 is foreign, nor which depths are bad
  on_bad : (f : Flow) → ((on f).bad ≡ bad) × ((on f).foreign ≡ false)
  on_bad Next = (refl, refl)
  on_bad Wait = (refl, refl)
  on_bad (Jump a) = (refl, refl)
  on_bad (Branch a) = (refl, refl)
  on_bad (Call a) = (refl, refl)
  on_bad Return = (refl, refl)
  on_bad (Start u a) = (refl, refl)
  on_bad Restart = (refl, refl)
  on_bad End = (refl, refl)
  on_bad ComputedJump = (refl, refl)
  on_bad (ComputedStart u) = (refl, refl)

-- ---- a command

-- a point of pair a and depth e follows a point of this task and block at some depth of s
pub record Follows (h : Terms) (bs : List ℕ) (task block s a e : ℕ) : Type 0 where
  pub from : ℕ
  pub has : Has s from
  pub at : Point
  pub member : In at (successors h bs (point task block from))
  pub pair : pair_of at.task at.block ≡ a
  pub depth : at.depth ≡ e

-- what is handed on from a task and block at depths s
pub record Handed (h : Terms) (bs : List ℕ) (task block s : ℕ) (o : Onward) : Type 0 where
  pub foreign_is : (d : ℕ) → is_foreign (fault_at h bs (point task block d)) ≡ o.foreign
  pub bad_of : (d : ℕ) → Has o.bad d → Has s d × (is_bad (fault_at h bs (point task block d)) ≡ true)
  pub bad_has : (d : ℕ) → Has s d → is_bad (fault_at h bs (point task block d)) ≡ true → Has o.bad d
  pub bad_small : o.bad < sets
  pub into_small : o.into < sets
  pub behind_small : o.behind < sets
  pub lander_small : task < task_count → o.lander < task_count
  pub landing_small : o.landing < sets
  pub into_follows : (e : ℕ) → Has o.into e → Follows h bs task block s o.named e
  pub behind_follows : (e : ℕ) → Has o.behind e → Follows h bs task block s (pair_of task (block + 1)) e
  pub landing_follows : (c : ℕ) → In c h.landings → (e : ℕ) → Has o.landing e → Follows h bs task block s (pair_of o.lander c) e
  pub whole : (d : ℕ) → Has s d → (q : Point) → In q (successors h bs (point task block d)) → OneOf h.landings task block o q

module _ (h : Terms) (bs : List ℕ) (task block s : ℕ) (small : s < sets) where
  abbrev c : Command
  c = command_at bs block

  abbrev f : Flow
  f = flow_of h c

  abbrev past : Bool
  past = any_past h.header.count (continues task block f)

  abbrev left : ℕ
  left = s - broken past f s

  abbrev fault : ℕ → FaultResult
  fault d = fault_at h bs (point task block d)

  fault_is : (d : ℕ) → fault d ≡ cond (foreign task c) (Err Foreign) (cond (permitted h c.code task) (fault_by past f d) (Err Forbidden))
  unfolding fault_at fault_of flow_fault
  fault_is d = refl

  follow_is : (d : ℕ) (k : FaultResult) → fault d ≡ k → successors h bs (point task block d) ≡ leads_to h.landings (point task block d) (unless k f)
  unfolding successors flow_at
  follow_is d k e = rw e

  -- nothing follows, from any depth
  nothing : (k : FaultResult) (o : Onward) → ((d : ℕ) → fault d ≡ k) → unless k f ≡ End → is_foreign k ≡ o.foreign → o.into ≡ 0 → o.behind ≡ 0
      → o.lander ≡ 0 → o.landing ≡ 0
      → ((d : ℕ) → Has o.bad d → Has s d × (is_bad k ≡ true)) → ((d : ℕ) → Has s d → is_bad k ≡ true → Has o.bad d) → o.bad < sets
      → Handed h bs task block s o
  nothing k o is ends alien into behind lander landing bad_of bad_has bad_small = record {
    foreign_is = λ d. rw (is d) alien;
    bad_of = λ d e. rw (is d) (bad_of d e);
    bad_has = λ d e b. bad_has d e (rw (is d) at b);
    bad_small = bad_small;
    into_small = rw into (omega arith);
    behind_small = rw behind (omega arith);
    lander_small = λ i. rw lander (omega arith);
    landing_small = rw landing (omega arith);
    into_follows = λ e i. absurd (none e (rw into at i));
    behind_follows = λ e i. absurd (none e (rw behind at i));
    landing_follows = λ c m e i. absurd (none e (rw landing at i));
    whole = λ d e q m. absurd (rw (follow_is d k (is d), ends) at m);
  }

  -- by its flow
  by_flow : ((d : ℕ) → fault d ≡ fault_by past f d) → Handed h bs task block s (flow_onward h.header.count task block f s)
  unfolding flow_onward
  by_flow is = record {
    foreign_is = λ d. rw (is d, (on_bad h.landings task block (broken past f s) left lowered f).1) (never past (too_deep f d) (no_call f d));
    bad_of = λ d e. rw (is d) ((split past f s d small).bad_of (rw (on_bad h.landings task block (broken past f s) left lowered f).0 at e));
    bad_has = λ d e b. rw (on_bad h.landings task block (broken past f s) left lowered f).0 (bad_here d e (rw (is d) at b));
    bad_small = rw (on_bad h.landings task block (broken past f s) left lowered f).0 (omega (arith, broken_within past f s));
    into_small = into_small h.landings task block (broken past f s) left lowered f;
    behind_small = behind_small h.landings task block (broken past f s) left lowered f;
    lander_small = lander_small h.landings task block (broken past f s) left lowered f (small_flow h c);
    landing_small = landing_small h.landings task block (broken past f s) left lowered f;
    into_follows = λ e i. followed e (into_led h.landings task block (broken past f s) left lowered f e i);
    behind_follows = λ e i. followed e (behind_led h.landings task block (broken past f s) left lowered f e i);
    landing_follows = λ c m e i. followed e (landing_led h.landings task block (broken past f s) left lowered f c e m i);
    whole = λ d e q m. go d e q m ((split past f s d small).has e);
  }
    where
      lowered : left < sets
      lowered = omega arith

      never : (past t u : Bool) → is_foreign (cond t (Err TooDeep) (cond u (Err NoCall) (cond past (Err PastEnd) (Ok tt)))) ≡ false
      never past true u = refl
      never past false true = refl
      never true false false = refl
      never false false false = refl

      bad_here : (d : ℕ) → Has s d → is_bad (fault_by past f d) ≡ true → Has (broken past f s) d
      bad_here d e b = ⊎_elim (λ y. y.0) (λ y. clash (sym b ∙ ap is_bad y.1)) ((split past f s d small).has e)

      followed : {a : ℕ} (e : ℕ) → Led h.landings task block f left a e → Follows h bs task block s a e
      followed e l =
          let t = (split past f s l.from small).left_of l.has in
          record {
            from = l.from;
            has = t.0;
            at = l.at;
            member = rw (follow_is l.from (Ok tt) (is l.from ∙ t.1))
                l.member;
            pair = l.pair;
            depth = l.depth;
          }

      shallow : (d : ℕ) → fault_by past f d ≡ Ok tt → too_deep f d ≡ false
      shallow d e = test (too_deep f d) (λ t. clash (ap is_bad (rw t at e))) (λ t. t)

      gone : (k : FaultResult) → is_bad k ≡ true → unless k f ≡ End
      gone (Ok _) b = clash (sym b)
      gone (Err Foreign) b = refl
      gone (Err Forbidden) b = refl
      gone (Err TooDeep) b = refl
      gone (Err NoCall) b = refl
      gone (Err PastEnd) b = refl

      go : (d : ℕ) → Has s d → (q : Point) → In q (successors h bs (point task block d))
          → (Has (broken past f s) d × (is_bad (fault_by past f d) ≡ true)) ⊎ (Has left d × (fault_by past f d ≡ Ok tt))
          → OneOf h.landings task block (handed_on task f (broken past f s) left) q
      go d e q m (inl y) = absurd (rw (follow_is d (fault_by past f d) (is d), gone (fault_by past f d) y.1) at m)
      go d e q m (inr y) =
          leads h.landings task block (broken past f s) left lowered f q d y.0 (shallow d y.1) (rw (follow_is d (Ok tt) (is d ∙ y.1)) at m)

  pub handed : Handed h bs task block s (onward_of h bs task block s)
  unfolding onward_of command_onward
  handed = go (foreign task c) (permitted h c.code task) refl refl
    where
      go : (t u : Bool) → foreign task c ≡ t → permitted h c.code task ≡ u
          → Handed h bs task block s (cond t onward_foreign (cond u (flow_onward h.header.count task block f s) (onward_none s)))
      go true u e k =
          nothing (Err Foreign) onward_foreign (λ d. fault_is d ∙ rw e refl) refl refl refl refl refl refl (λ d i. absurd (none d i)) (λ d i b. clash (sym b)) (omega arith)
      go false true e k = by_flow (λ d. fault_is d ∙ rw (e, k) refl)
      go false false e k = nothing (Err Forbidden) (onward_none s) (λ d. fault_is d ∙ rw (e, k) refl) refl refl refl refl refl refl (λ d i. (i, refl)) (λ d i b. i) small

-- ---- by number

module _ (h : Terms) (bs : List ℕ) (p s : ℕ) (small : s < sets) where
  abbrev o : Onward
  o = onward_of h bs (task_of p) (block_of p) s

  all : Handed h bs (task_of p) (block_of p) s o
  all = handed h bs (task_of p) (block_of p) s small

  -- the point of a pair at a depth
  pub point_is : (d : ℕ) → d < depths → point_at (depths * p + d) ≡ point (task_of p) (block_of p) d
  unfolding point_at
  point_is d l =
      let e : (depths * p + d) / depths ≡ p = omega arith in
      let i : (depths * p + d) % depths ≡ d = omega arith in
      rw (e, i)

  next_is : (d : ℕ) → d < depths → next_of h bs (depths * p + d) ≡ indices (successors h bs (point (task_of p) (block_of p) d))
  unfolding next_of
  next_is d l = rw (point_is d l)

  number_of : (q : Point) (a e : ℕ) → pair_of q.task q.block ≡ a → q.depth ≡ e → index_of q ≡ depths * a + e
  unfolding index_of
  number_of q a e i j = omega (arith, i, j)

  by_number : (a e : ℕ) → Follows h bs (task_of p) (block_of p) s a e → (d : ℕ) × (d < depths) × Has s d × In (depths * a + e) (next_of h bs (depths * p + d))
  by_number a e w =
      let l = is_depth s w.from small w.has in
      (w.from, l, w.has, rw (next_is w.from l, ← number_of w.at a e w.pair w.depth) (index_in _ w.at w.member))

  pub hands : Hands (next_of h bs) h.landings p s o.named o.into (p + task_count) o.behind o.lander o.landing
  hands = record {
    a_set = all.into_small;
    b_set = all.behind_small;
    t_task = all.lander_small (omega arith);
    t_set = all.landing_small;
    a_sound = λ e i. by_number o.named e (all.into_follows e i);
    b_sound = λ e i. by_number (p + task_count) e (rw after at (all.behind_follows e i));
    t_sound = λ c m e i. by_number (pair_of o.lander c) e (all.landing_follows c m e i);
    whole = λ d i q m.
        let w = indexed _ q (rw (next_is d (is_depth s d small i)) at m) in
        ⊎_elim (λ y. inl (apart q w.at o.named o.into w.number y))
        (λ y. inr (⊎_elim (λ z. inl (rw after at (apart q w.at (pair_of (task_of p) (block_of p + 1)) o.behind w.number z)))
        (λ z. inr (lands q w.at w.number z)) y))
        (all.whole d i w.at w.member);
  }
    where
      after : pair_of (task_of p) (block_of p + 1) ≡ p + task_count
      after = omega arith

      apart : (i : ℕ) (q : Point) (a u : ℕ) → i ≡ index_of q → OfPair q a u → (i / depths ≡ a) × Has u (i % depths)
      apart i q a u n w =
          let m = number_of q a q.depth w.0 refl in
          let l = w.1.0 in
          let e : i % depths ≡ q.depth = omega arith in
          (omega arith, rw e w.1.1)

      lands : (i : ℕ) (q : Point) → i ≡ index_of q → OfLanding h.landings q o.lander o.landing → Lands h.landings o.lander o.landing i
      lands i q n w =
          let k = apart i q (pair_of o.lander w.landing) o.landing n w.of_pair in
          record { block = w.landing; member = w.member; pair = k.0; depth = k.1 }

  -- a 51 there is foreign at all depths or none, and the bad points are those of the bad depths
  pub foreign_at_lem : (d : ℕ) → d < depths → is_foreign (fault_at h bs (point_at (depths * p + d))) ≡ o.foreign
  foreign_at_lem d l = rw (point_is d l) (all.foreign_is d)

  pub bad_of : (d : ℕ) → Has o.bad d → Has s d × (is_bad (fault_at h bs (point_at (depths * p + d))) ≡ true)
  bad_of d e = let w = all.bad_of d e in rw (point_is d (is_depth s d small w.0)) w

  pub bad_has : (d : ℕ) → Has s d → is_bad (fault_at h bs (point_at (depths * p + d))) ≡ true → Has o.bad d
  bad_has d e b = all.bad_has d e (rw (point_is d (is_depth s d small e)) at b)

  pub bad_small : o.bad < sets
  bad_small = all.bad_small

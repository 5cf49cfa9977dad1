-- The points that walks reach are the numbers that are reached by successors: returns to a start add nothing, since the command that named the
-- start block, passed earlier on the walk, is followed by that block already, and BIAS's start is the first point.
use Rattle.std.specs.Prelude.{Ok}
use Prim.Native.Nat.{ℕ, suc, ◌<◌, ◌≤◌}
use mathlib.Core.Path.{◌≡◌, refl, ap, ◌∙◌}
use mathlib.Core.Bool.{Bool, true, false, cond}
use mathlib.Core.Logic.{◌⊎◌, inl, inr}
use mathlib.Core.List.{List, [], ◌∷◌}
use native.Mathlib.Omega.{arith}
use lib.Dec.{eqb}
use lib.ListN.{length}
use borrow.Author.Tests.{eqb-true}
use Rattle.limits.specs.Limits.{bias, plc, mathematics, marks_length}
use Rattle.walk_flow.specs.Terms.{Terms}
use Rattle.command_operands.specs.declared.Command.{Command}
use Rattle.walk_flow.specs.Flow.{flow_of}
use Rattle.walk_point.specs.PointFault.{point}
use Rattle.walk_point.specs.declared.Point.{Point}
use Rattle.walk.specs.Blocks.{command_at, fault_at}
use Rattle.walk.specs.Walk.{Named, starts, latest, start_of, Walk, Reaches}
use Rattle.walk.specs.Index.{Inside, index_of, point_at}
use Rattle.walk.specs.Successors.{leads_to, flow_at, successors, indices, next_of, WalkBounds}
use Rattle.walk.specs.Graph.{In, Reach}
use Rattle.walk.specs.Verdict.{root_of, most_following}
use Rattle.walk.proofs.Points.Index.{point_back, below_marks}
use Rattle.walk.proofs.Points.Within.{Within, passes, follows, successors_within, successors_few}
use Rattle.walk.proofs.Steps.AsMoves.{Special, step_follows, follow_step, start_follows}

-- ---- lists of numbers

pub index_in : (ps : List Point) (p : Point) → In p ps → In (index_of p) (indices ps)
unfolding indices
index_in [] p m = absurd m
index_in (x ∷ ps) p (inl e) = inl (ap index_of e)
index_in (x ∷ ps) p (inr m) = inr (index_in ps p m)

-- the point of a number in the list
pub record Indexed (ps : List Point) (i : ℕ) : Type 0 where
  pub at : Point
  pub member : In at ps
  pub number : i ≡ index_of at

pub indexed : (ps : List Point) (i : ℕ) → In i (indices ps) → Indexed ps i
unfolding indices
indexed [] i m = absurd m
indexed (x ∷ ps) i (inl e) = record { at = x; member = inl refl; number = e }
indexed (x ∷ ps) i (inr m) = let k = indexed ps i m in record { at = k.at; member = inr k.member; number = k.number }

pub indices_long : (ps : List Point) → length (indices ps) ≡ length ps
unfolding indices
indices_long [] = refl
indices_long (x ∷ ps) = ap suc (indices_long ps)

module _ (h : Terms) (bs : List ℕ) (bounds : WalkBounds h) where
  abbrev Reached : Point → Type 0
  Reached p = Reach (next_of h bs) (root_of h) (index_of p)

  pub inside : (p : Point) → Within h p → Inside p
  inside p w = let b = w.block in let m = bounds.most in record { task = w.task; block = omega arith; depth = w.depth }

  pub next_few : (i : ℕ) → length (next_of h bs i) ≤ most_following
  unfolding next_of
  next_few i = rw (indices_long (successors h bs (point_at i))) (successors_few h bounds bs (point_at i))

  first_within : Within h (point bias h.header.start 0)
  first_within = record { task = omega arith; block = bounds.begins; depth = omega arith }

  -- a point that follows a point reached is reached
  reached_next : (p q : Point) → Within h p → Reached p → In q (successors h bs p) → Reached q
  unfolding next_of
  reached_next p q w r m =
      Reach.step (index_of p) (index_of q) r (rw (point_back p (inside p w)) (index_in (successors h bs p) q m))

  goes_on : (p q : Point) → fault_at h bs p ≡ Ok tt → In q (leads_to h.landings p (flow_of h (command_at bs p.block))) → In q (successors h bs p)
  unfolding successors flow_at
  goes_on p q e m = rw e m

  -- ---- a walk's points are reached

  -- a point of a walk that was passed: it is reached and breaks nothing
  record Sound (p : Point) : Type 0 where
    within : Within h p
    reach : Reached p
    fine : fault_at h bs p ≡ Ok tt

  abbrev All : (Point → Type 0) → List Point → Type 0
  All P [] = Unit {0}
  All P (p ∷ ps) = P p × All P ps

  -- a point that a passed command names as a start is reached
  named_reached : (o : Point) → Sound o → (u : ℕ) → starts (command_at bs o.block).code u ≡ true
      → Reached (point u (command_at bs o.block).word 0) × Within h (point u (command_at bs o.block).word 0)
  unfolding fault_at
  named_reached o s u e =
      let c = command_at bs o.block in
      let q = point u c.word 0 in
      let f = start_follows h bs [] o c (passes h c o s.fine).allowed u e in
      let m = goes_on o q s.fine f in
      (reached_next o q s.within s.reach m, successors_within h bounds bs o q s.within m)

  latest_reached : (code u : ℕ) → ((k : ℕ) → k ≡ code → starts k u ≡ true) → (path : List Point) → All Sound path → (a : ℕ) → latest bs code path ≡ Named.at a
      → Reached (point u a 0) × Within h (point u a 0)
  unfolding latest
  latest_reached code u s [] all a e = absurd (unnamed e)
    where
      unnamed : Named.none ≡ Named.at a → ⊥
      unnamed e = let z : ◌≡◌ {A = ℕ} 0 1 = cc in omega arith
  latest_reached code u s (o ∷ path) all a e =
      choose (eqb (command_at bs o.block).code code) refl e (latest_reached code u s path all.1 a)
    where
      choose : (t : Bool) → eqb (command_at bs o.block).code code ≡ t
          → cond t (Named.at (command_at bs o.block).word) (latest bs code path) ≡ Named.at a
          → (latest bs code path ≡ Named.at a → Reached (point u a 0) × Within h (point u a 0))
          → Reached (point u a 0) × Within h (point u a 0)
      choose true i e later =
          let w : (command_at bs o.block).word ≡ a = cc in
          rw (← w) (named_reached o all.0 u (s _ (eqb-true _ _ i)))
      choose false i e later = later e

  begins_plc : (k : ℕ) → k ≡ 0x54 → starts k plc ≡ true
  begins_plc k e = rw e

  begins_mathematics : (k : ℕ) → k ≡ 0x90 → starts k mathematics ≡ true
  begins_mathematics k e = rw e

  -- the start that a return leads to is reached
  start_reached : (task : ℕ) (path : List Point) → All Sound path → (a : ℕ) → start_of h bs task path ≡ Named.at a
      → Reached (point task a 0) × Within h (point task a 0)
  unfolding start_of
  start_reached task path all a e = first (eqb task bias) refl e
    where
      third : (t : Bool) → eqb task mathematics ≡ t → cond t (latest bs 0x90 path) Named.none ≡ Named.at a
          → Reached (point task a 0) × Within h (point task a 0)
      third true i e = rw (eqb-true task mathematics i) (latest_reached 0x90 mathematics begins_mathematics path all a e)
      third false i e = absurd (let z : ◌≡◌ {A = ℕ} 0 1 = cc in omega arith)

      second : (t : Bool) → eqb task plc ≡ t
          → cond t (latest bs 0x54 path) (cond (eqb task mathematics) (latest bs 0x90 path) Named.none) ≡ Named.at a
          → Reached (point task a 0) × Within h (point task a 0)
      second true i e = rw (eqb-true task plc i) (latest_reached 0x54 plc begins_plc path all a e)
      second false i e = third (eqb task mathematics) refl e

      first : (t : Bool) → eqb task bias ≡ t
          → cond t (Named.at h.header.start) (cond (eqb task plc) (latest bs 0x54 path) (cond (eqb task mathematics) (latest bs 0x90 path) Named.none))
          ≡ Named.at a
          → Reached (point task a 0) × Within h (point task a 0)
      first true i e = let w : h.header.start ≡ a = cc in rw (eqb-true task bias i, ← w) (Reach.begin, first_within)
      first false i e = second (eqb task plc) refl e

  -- what holds all along a walk
  record Kept (path : List Point) (p : Point) : Type 0 where
    within : Within h p
    reach : Reached p
    passed : All Sound path

  kept : {path : List Point} {p : Point} → Walk h bs path p → Kept path p
  unfolding fault_at
  kept Walk.begin = record { within = first_within; reach = Reach.begin; passed = tt }
  kept (Walk.onward {path = path} {p = p} q w fine s) = go (kept w)
    where
      go : Kept path p → Kept (p ∷ path) q
      go k = along (step_follows h bs (p ∷ path) p c (passes h c p fine).allowed q s)
        where
          c : Command
          c = command_at bs p.block

          all : All Sound (p ∷ path)
          all = (record { within = k.within; reach = k.reach; fine = fine }, k.passed)

          along : In q (leads_to h.landings p (flow_of h c)) ⊎ Special h bs (p ∷ path) p c q → Kept (p ∷ path) q
          along (inl m) =
              let f = goes_on p q fine m in
              record { within = successors_within h bounds bs p q k.within f; reach = reached_next p q k.within k.reach f; passed = all }
          along (inr (Special.stays w e)) = rw e (record { within = k.within; reach = k.reach; passed = all })
          along (inr (Special.restarts a k51 e i)) =
              let r = start_reached p.task (p ∷ path) all a e in
              rw i (record { within = r.1; reach = r.0; passed = all })

  -- ---- what is reached, a walk reaches

  -- a number that is reached is that of a point within the image, and a walk ends there
  pub record Arrives (i : ℕ) : Type 0 where
    pub at : Point
    pub within : Within h at
    pub number : i ≡ index_of at
    pub walks : Reaches h bs at

  -- one step more: the number is that of a successor, and the successor is reached by a step of the walk
  arrives_next : (i j : ℕ) → Arrives j → In i (next_of h bs j) → Arrives i
  unfolding next_of successors flow_at fault_at
  arrives_next i j a m =
      let p = a.at in
      let c = command_at bs p.block in
      let back : point_at j ≡ p = ap point_at a.number ∙ point_back p (inside p a.within) in
      let k = indexed (successors h bs p) i (rw back at m) in
      let q = k.at in
      let f = follows h.landings (fault_at h bs p) (flow_of h c) p q k.member in
      let s = follow_step h bs (p ∷ a.walks.path) p c (passes h c p f.0).allowed q f.1 in
      record {
        at = q;
        within = successors_within h bounds bs p q a.within k.member;
        number = k.number;
        walks = record { path = p ∷ a.walks.path; walk = Walk.onward q a.walks.walk f.0 s };
      }

  pub arrives : (i : ℕ) → Reach (next_of h bs) (root_of h) i → Arrives i
  arrives i Reach.begin =
      record { at = point bias h.header.start 0; within = first_within; number = refl; walks = record { path = []; walk = Walk.begin } }
  arrives i (Reach.step j k r m) = arrives_next i j (arrives j r) m

  -- ---- both

  -- a walk ends at a point exactly when its number is reached
  pub reached_within : (p : Point) → Reaches h bs p → Within h p
  reached_within p r = (kept r.walk).within

  pub reached_number : (p : Point) → Reaches h bs p → Reach (next_of h bs) (root_of h) (index_of p)
  reached_number p r = (kept r.walk).reach

  pub number_reached : (i : ℕ) → Reach (next_of h bs) (root_of h) i → Reaches h bs (point_at i)
  number_reached i r =
      let a = arrives i r in
      rw (ap point_at a.number ∙ point_back a.at (inside a.at a.within)) a.walks

  pub number_inside : (i : ℕ) → Reach (next_of h bs) (root_of h) i → i < marks_length
  number_inside i r = let a = arrives i r in rw a.number (below_marks a.at (inside a.at a.within))

-- 12 is judged of exactly the blocks that steps lead to: where its task may use a command, a block is among those that it may continue with exactly when some
-- step from the point leads to it. 51 is apart: its returns lead to blocks that were judged where they were named. So are landing blocks, which 21 has judged:
-- they are below the count (`WalkBounds`).
use Prim.Native.Nat.{ℕ, ◌+◌, ◌≤◌}
use mathlib.Core.Path.{◌≡◌, refl, sym, ap, ◌∙◌}
use mathlib.Core.Bool.{Bool, true, false, ◌||◌, cond, or-true}
use mathlib.Core.Logic.{◌⊎◌, inl, inr, ⊎_elim, ◌↔◌}
use mathlib.Core.List.{List, [], ◌∷◌}
use native.Mathlib.Omega.{arith}
use lib.Dec.{eqb, leb}
use borrow.Author.Tests.{leb-true, le-leb}
use Rattle.walk_flow.specs.Terms.{Terms}
use Rattle.logic.proofs.Choice.{clash, or_is}
use Rattle.command_operands.specs.declared.Command.{Command}
use Rattle.walk_flow.specs.Flow.{flow_of, continues}
use Rattle.walk_flow.specs.Permission.{permitted}
use Rattle.walk_point.specs.PointFault.{point, any_past}
use Rattle.walk_point.specs.declared.Point.{Point}
use Rattle.walk_flow.specs.declared.Flow.{Flow}
use Rattle.walk_flow.specs.declared.Flow.TheVariants.{Next, Wait, Jump, Branch, Call, Return, Start, Restart, End, ComputedJump, ComputedStart}
use Rattle.walk.specs.Graph.{In}
use Rattle.walk.specs.Walk.{WalkStep}
use Rattle.walk.specs.Successors.{each_at, leads_to, WalkBounds}
use Rattle.walk.proofs.Steps.Moves.{wait_f, in_each}
use Rattle.walk.proofs.Steps.AsMoves.{Special, step_follows, follow_step, may_stay}

-- a step leads to this block
pub record Leads (h : Terms) (bs : List ℕ) (path : List Point) (p : Point) (c : Command) (x : ℕ) : Type 0 where
  pub to : Point
  pub step : WalkStep h bs path p c to
  pub block : to.block ≡ x

-- ---- the blocks that a flow may continue with are those of the points that follow, and the own block of a wait

record Follows (ls : List ℕ) (p : Point) (f : Flow) (x : ℕ) : Type 0 where
  at : Point
  member : In at (leads_to ls p f) ⊎ ((wait_f f ≡ true) × (at ≡ p))
  block : x ≡ at.block

module _ (ls : List ℕ) (p : Point) where
  abbrev beyond : Point
  beyond = point p.task (p.block + 1) p.depth

  found : {f : Flow} {x : ℕ} (q : Point) → In q (leads_to ls p f) → x ≡ q.block → Follows ls p f x
  found q m e = record { at = q; member = inl m; block = e }

  continues_follows : (f : Flow) (x : ℕ) → In x (continues p.task p.block f) → Follows ls p f x
  continues_follows Next x (inl e) = found beyond (inl refl) e
  continues_follows Next x (inr m) = absurd m
  continues_follows Wait x (inl e) = found beyond (inl refl) e
  continues_follows Wait x (inr (inl e)) = record { at = p; member = inr (refl, refl); block = e }
  continues_follows Wait x (inr (inr m)) = absurd m
  continues_follows (Jump a) x (inl e) = found (point p.task a p.depth) (inl refl) e
  continues_follows (Jump a) x (inr m) = absurd m
  continues_follows (Branch a) x (inl e) = found (point p.task a p.depth) (inl refl) e
  continues_follows (Branch a) x (inr (inl e)) = found beyond (inr (inl refl)) e
  continues_follows (Branch a) x (inr (inr m)) = absurd m
  continues_follows (Call a) x (inl e) = found (point p.task a (p.depth + 1)) (inl refl) e
  continues_follows (Call a) x (inr (inl e)) = found beyond (inr (inl refl)) e
  continues_follows (Call a) x (inr (inr m)) = absurd m
  continues_follows Return x m = absurd m
  continues_follows (Start u a) x m = starts (eqb u p.task) refl m
    where
      starts : (t : Bool) → eqb u p.task ≡ t → In x (cond t (a ∷ []) (a ∷ (p.block + 1) ∷ [])) → Follows ls p (Start u a) x
      starts true i (inl e) = record { at = point u a 0; member = inl (rw i (inl refl)); block = e }
      starts true i (inr m) = absurd m
      starts false i (inl e) = record { at = point u a 0; member = inl (rw i (inl refl)); block = e }
      starts false i (inr (inl e)) = record { at = beyond; member = inl (rw i (inr (inl refl))); block = e }
      starts false i (inr (inr m)) = absurd m
  continues_follows Restart x m = absurd m
  continues_follows End x m = absurd m
  continues_follows ComputedJump x m = absurd m
  continues_follows (ComputedStart u) x m = starts (eqb u p.task) refl m
    where
      starts : (t : Bool) → eqb u p.task ≡ t → In x (cond t [] ((p.block + 1) ∷ [])) → Follows ls p (ComputedStart u) x
      starts true i m = absurd m
      starts false i (inl e) = record { at = beyond; member = inl (rw i (inl refl)); block = e }
      starts false i (inr m) = absurd m

  landed : (t d : ℕ) (q : Point) → In q (each_at t d ls) → In q.block ls
  landed t d q m = let k = in_each t d ls q m in rw (ap (λ (o : Point). o.block) k.is) k.member

  follows_continues : (f : Flow) (q : Point) → In q (leads_to ls p f) → In q.block (continues p.task p.block f) ⊎ In q.block ls
  follows_continues Next q (inl e) = inl (inl (ap (λ (o : Point). o.block) e))
  follows_continues Next q (inr m) = absurd m
  follows_continues Wait q (inl e) = inl (inl (ap (λ (o : Point). o.block) e))
  follows_continues Wait q (inr m) = absurd m
  follows_continues (Jump a) q (inl e) = inl (inl (ap (λ (o : Point). o.block) e))
  follows_continues (Jump a) q (inr m) = absurd m
  follows_continues (Branch a) q (inl e) = inl (inl (ap (λ (o : Point). o.block) e))
  follows_continues (Branch a) q (inr (inl e)) = inl (inr (inl (ap (λ (o : Point). o.block) e)))
  follows_continues (Branch a) q (inr (inr m)) = absurd m
  follows_continues (Call a) q (inl e) = inl (inl (ap (λ (o : Point). o.block) e))
  follows_continues (Call a) q (inr (inl e)) = inl (inr (inl (ap (λ (o : Point). o.block) e)))
  follows_continues (Call a) q (inr (inr m)) = absurd m
  follows_continues Return q m = absurd m
  follows_continues (Start u a) q m = starts (eqb u p.task) m
    where
      starts : (t : Bool) → In q (cond t (point u a 0 ∷ []) (point u a 0 ∷ beyond ∷ [])) → In q.block (cond t (a ∷ []) (a ∷ (p.block + 1) ∷ [])) ⊎ In q.block ls
      starts true (inl e) = inl (inl (ap (λ (o : Point). o.block) e))
      starts true (inr m) = absurd m
      starts false (inl e) = inl (inl (ap (λ (o : Point). o.block) e))
      starts false (inr (inl e)) = inl (inr (inl (ap (λ (o : Point). o.block) e)))
      starts false (inr (inr m)) = absurd m
  follows_continues Restart q m = absurd m
  follows_continues End q m = absurd m
  follows_continues ComputedJump q m = inr (landed p.task p.depth q m)
  follows_continues (ComputedStart u) q m = starts (eqb u p.task) m
    where
      starts : (t : Bool) → In q (cond t (each_at u 0 ls) (beyond ∷ each_at u 0 ls)) → In q.block (cond t [] ((p.block + 1) ∷ [])) ⊎ In q.block ls
      starts true m = inr (landed u 0 q m)
      starts false (inl e) = inl (inl (ap (λ (o : Point). o.block) e))
      starts false (inr m) = inr (landed u 0 q m)

  waits_continues : (f : Flow) → wait_f f ≡ true → In p.block (continues p.task p.block f)
  waits_continues Wait e = inr (inl refl)
  waits_continues Next e = clash (sym e)
  waits_continues (Jump a) e = clash (sym e)
  waits_continues (Branch a) e = clash (sym e)
  waits_continues (Call a) e = clash (sym e)
  waits_continues Return e = clash (sym e)
  waits_continues (Start u a) e = clash (sym e)
  waits_continues Restart e = clash (sym e)
  waits_continues End e = clash (sym e)
  waits_continues ComputedJump e = clash (sym e)
  waits_continues (ComputedStart u) e = clash (sym e)

-- ---- the law

-- a block of the list that is not below the count
pub record Past (count : ℕ) (xs : List ℕ) : Type 0 where
  pub at : ℕ
  pub member : In at xs
  pub past : count ≤ at

any_past_lem : (count : ℕ) (xs : List ℕ) → any_past count xs ≡ true → Past count xs
any_past_lem count [] e = clash (sym e)
any_past_lem count (x ∷ xs) e =
    ⊎_elim (λ t. record { at = x; member = inl refl; past = leb-true count x t })
    (λ t. let k = any_past_lem count xs t in record { at = k.at; member = inr k.member; past = k.past })
    (or_is (leb count x) (any_past count xs) e)

past_any : (count : ℕ) (xs : List ℕ) (x : ℕ) → In x xs → count ≤ x → any_past count xs ≡ true
past_any count [] x m l = absurd m
past_any count (y ∷ xs) x (inl e) l = rw (le-leb count y (rw e at l))
past_any count (y ∷ xs) x (inr m) l = ap (λ (t : Bool). leb count y || t) (past_any count xs x m l) ∙ or-true (leb count y)

module _ (h : Terms) (bs : List ℕ) (path : List Point) (p : Point) (c : Command) (allowed : permitted h c.code p.task ≡ true) where
  -- the blocks that 12 judges are those that steps lead to
  judged_lead : (x : ℕ) → In x (continues p.task p.block (flow_of h c)) → Leads h bs path p c x
  judged_lead x m = go (continues_follows h.landings p (flow_of h c) x m)
    where
      go : Follows h.landings p (flow_of h c) x → Leads h bs path p c x
      go f = ⊎_elim (λ k. record { to = f.at; step = follow_step h bs path p c allowed f.at k; block = sym f.block })
          (λ w. record { to = p; step = WalkStep.stay (may_stay h bs path p c allowed ∙ w.0); block = sym (f.block ∙ ap (λ (o : Point). o.block) w.1) })
          f.member

  lead_judged : (c.code ≡ 0x51 → ⊥) → (q : Point) → WalkStep h bs path p c q
      → In q.block (continues p.task p.block (flow_of h c)) ⊎ In q.block h.landings
  lead_judged n q s = ⊎_elim (λ m. follows_continues h.landings p (flow_of h c) q m) special (step_follows h bs path p c allowed q s)
    where
      special : Special h bs path p c q → In q.block (continues p.task p.block (flow_of h c)) ⊎ In q.block h.landings
      special (Special.stays w e) = inl (rw e (waits_continues h.landings p (flow_of h c) (sym (may_stay h bs path p c allowed) ∙ w)))
      special (Special.restarts a k e i) = absurd (n k)

  -- so 12 holds exactly where a step leads past the end
  pub record LeadsPast : Type 0 where
    pub to : Point
    pub step : WalkStep h bs path p c to
    pub past : h.header.count ≤ to.block

  pub past_exactly : WalkBounds h → (c.code ≡ 0x51 → ⊥) → (any_past h.header.count (continues p.task p.block (flow_of h c)) ≡ true) ↔ LeadsPast
  past_exactly bounds n = (
    λ e. let k = any_past_lem h.header.count (continues p.task p.block (flow_of h c)) e in
        let l = judged_lead k.at k.member in
        record { to = l.to; step = l.step; past = rw l.block k.past },
    λ l. ⊎_elim (λ m. past_any h.header.count (continues p.task p.block (flow_of h c)) l.to.block m l.past)
        (λ m. let a = bounds.below l.to.block m in let b = l.past in absurd (omega arith))
        (lead_judged n l.to l.step),
  )

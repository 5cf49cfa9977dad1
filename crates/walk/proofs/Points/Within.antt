-- Walks stay within the image: what follows a point of a task, a block of the image and a depth up to the limit is again such a point, since
-- nothing follows a bad point and landing blocks are blocks of the image; and at most so many points follow as there may be landing blocks, and one.
use Rattle.std.specs.Prelude.{Ok, Err}
use Prim.Native.Nat.{ℕ, suc, ◌+◌, ◌<◌, ◌≤◌}
use mathlib.Core.Path.{◌≡◌, refl, sym, ap, ◌∙◌}
use mathlib.Core.Bool.{Bool, true, false, ◌||◌, cond}
use mathlib.Core.Logic.{inl, inr, ⊎_elim}
use mathlib.Core.List.{List, [], ◌∷◌}
use native.Mathlib.Omega.{arith}
use lib.ListN.{length}
use lib.Dec.{eqb, leb}
use borrow.Author.Tests.{leb-false}
use Rattle.limits.specs.Limits.{task_count, most_depth, most_landings}
use Rattle.walk_flow.specs.Terms.{Terms}
use Rattle.logic.proofs.Choice.{clash, neither}
use Rattle.command_table.specs.Rows.{row_of}
use Rattle.command_table.specs.declared.FlowKind.{FlowKind}
use Rattle.command_table.specs.declared.FlowKind.TheVariants as flowKind
use Rattle.command_operands.specs.declared.Command.{Command}
use Rattle.walk_flow.specs.Flow.{flow_by, flow_of, continues}
use Rattle.walk_flow.specs.Permission.{foreign, permitted}
use Rattle.walk_point.specs.PointFault.{point, too_deep, no_call, any_past, flow_fault, fault_of}
use Rattle.walk_point.specs.declared.Point.{Point}
use Rattle.walk_flow.specs.declared.Flow.{Flow}
use Rattle.walk_flow.specs.declared.Flow.TheVariants.{Next, Wait, Jump, Branch, Call, Return, Start, Restart, End, ComputedJump, ComputedStart}
use Rattle.walk_fault.specs.Fault.{FaultResult}
use Rattle.walk_fault.specs.declared.Fault.TheVariants.{Foreign, Forbidden, TooDeep, NoCall, PastEnd}
use Rattle.walk.specs.Blocks.{command_at, fault_at}
use Rattle.walk.specs.Graph.{In}
use Rattle.walk.specs.Successors.{each_at, leads_to, unless, flow_at, successors, WalkBounds}
use Rattle.walk.specs.Verdict.{most_following}

-- whether a fault is none
kind : FaultResult → Bool
kind (Ok _) = true
kind (Err Foreign) = false
kind (Err Forbidden) = false
kind (Err TooDeep) = false
kind (Err NoCall) = false
kind (Err PastEnd) = false

-- where a choice is Fine and one way is not, the other way was taken
not_first : (t : Bool) (f g : FaultResult) → kind f ≡ false → cond t f g ≡ Ok tt → (t ≡ false) × (g ≡ Ok tt)
unfolding kind
not_first true f g k e = clash (sym (ap kind e) ∙ k)
not_first false f g k e = (refl, e)

not_second : (t : Bool) (f g : FaultResult) → kind g ≡ false → cond t f g ≡ Ok tt → (t ≡ true) × (f ≡ Ok tt)
unfolding kind
not_second true f g k e = (refl, e)
not_second false f g k e = clash (sym (ap kind e) ∙ k)

-- what is known of a command at a point that breaks nothing
pub record Passes (h : Terms) (c : Command) (p : Point) : Type 0 where
  pub own : foreign p.task c ≡ false
  pub allowed : permitted h c.code p.task ≡ true
  pub shallow : too_deep (flow_of h c) p.depth ≡ false
  pub called : no_call (flow_of h c) p.depth ≡ false
  pub ahead : any_past h.header.count (continues p.task p.block (flow_of h c)) ≡ false

pub passes : (h : Terms) (c : Command) (p : Point) → fault_of h c p ≡ Ok tt → Passes h c p
unfolding fault_of flow_fault kind
passes h c p e =
    let a = not_first (foreign p.task c) (Err Foreign) _ refl e in
    let b = not_second (permitted h c.code p.task) _ (Err Forbidden) refl a.1 in
    let d = not_first (too_deep (flow_of h c) p.depth) (Err TooDeep) _ refl b.1 in
    let f = not_first (no_call (flow_of h c) p.depth) (Err NoCall) _ refl d.1 in
    let g = not_first (any_past h.header.count (continues p.task p.block (flow_of h c))) (Err PastEnd) (Ok tt) refl f.1 in
    record { own = a.0; allowed = b.0; shallow = d.0; called = f.0; ahead = g.0 }

-- a point of a task, a block and a depth of the image
pub record Within (h : Terms) (p : Point) : Type 0 where
  pub task : p.task < task_count
  pub block : p.block < h.header.count
  pub depth : p.depth ≤ most_depth

-- a start names one of the three tasks
abbrev pub Small : Flow → Type 0
Small (Start u a) = u < task_count
Small Next = Unit {0}
Small Wait = Unit {0}
Small (Jump a) = Unit {0}
Small (Branch a) = Unit {0}
Small (Call a) = Unit {0}
Small Return = Unit {0}
Small Restart = Unit {0}
Small End = Unit {0}
Small ComputedJump = Unit {0}
Small (ComputedStart u) = u < task_count

small : (k : FlowKind) (x word : ℕ) → Small (flow_by k x word)
small flowKind.Nothing x word = tt
small flowKind.Next x word = tt
small flowKind.Wait x word = tt
small flowKind.Jump x word = tt
small flowKind.Branch x word = tt
small flowKind.Call x word = tt
small flowKind.Return x word = tt
small flowKind.StartBias x word = omega arith
small flowKind.StartPlc x word = omega arith
small flowKind.StartMathematics x word = omega arith
small flowKind.Ending x word = ends (eqb x 0)
  where
    ends : (t : Bool) → Small (cond t Restart End)
    ends true = tt
    ends false = tt
small flowKind.ComputedJump x word = tt
small flowKind.ComputedStartBias x word = omega arith

pub small_flow : (h : Terms) (c : Command) → Small (flow_of h c)
unfolding flow_of
small_flow h c = small (row_of c.code).flow c.x c.word

abbrev All : (Point → Type 0) → List Point → Type 0
All P [] = Unit {0}
All P (p ∷ ps) = P p × All P ps

all_in : (P : Point → Type 0) (ps : List Point) → All P ps → (q : Point) → In q ps → P q
all_in P [] a q m = absurd m
all_in P (p ∷ ps) a q m = ⊎_elim (λ i. rw i a.0) (λ n. all_in P ps a.1 q n) m

-- a block that is not past the end
near : (count b : ℕ) (rest : Bool) → (leb count b || rest) ≡ false → (b < count) × (rest ≡ false)
near count b rest e = let n = neither (leb count b) rest e in (leb-false count b n.0, n.1)

-- a task at each landing block
each_within : (h : Terms) (t d : ℕ) → t < task_count → d ≤ most_depth → (ls : List ℕ) → ((a : ℕ) → In a ls → a < h.header.count)
    → All (Within h) (each_at t d ls)
each_within h t d l m [] below = tt
each_within h t d l m (a ∷ ls) below =
    (record { task = l; block = below a (inl refl); depth = m }, each_within h t d l m ls (λ b k. below b (inr k)))

goes_within : (h : Terms) (bounds : WalkBounds h) (p : Point) → Within h p → (f : Flow) → Small f → too_deep f p.depth ≡ false
    → any_past h.header.count (continues p.task p.block f) ≡ false → All (Within h) (leads_to h.landings p f)
goes_within h bounds p w Next s d e = (record { task = w.task; block = (near _ _ _ e).0; depth = w.depth }, tt)
goes_within h bounds p w Wait s d e = (record { task = w.task; block = (near _ _ _ e).0; depth = w.depth }, tt)
goes_within h bounds p w (Jump a) s d e = (record { task = w.task; block = (near _ _ _ e).0; depth = w.depth }, tt)
goes_within h bounds p w (Branch a) s d e =
    let n = near _ _ _ e in
    (record { task = w.task; block = n.0; depth = w.depth }, (record { task = w.task; block = (near _ _ _ n.1).0; depth = w.depth }, tt))
goes_within h bounds p w (Call a) s d e =
    let n = near _ _ _ e in
    let l = leb-false most_depth p.depth d in
    (record { task = w.task; block = n.0; depth = omega arith }, (record { task = w.task; block = (near _ _ _ n.1).0; depth = w.depth }, tt))
goes_within h bounds p w Return s d e = tt
goes_within h bounds p w (Start u a) s d e = choose (eqb u p.task) e
  where
    choose : (t : Bool) → any_past h.header.count (cond t (a ∷ []) (a ∷ (p.block + 1) ∷ [])) ≡ false
        → All (Within h) (cond t (point u a 0 ∷ []) (point u a 0 ∷ point p.task (p.block + 1) p.depth ∷ []))
    choose true k = (record { task = s; block = (near _ _ _ k).0; depth = omega arith }, tt)
    choose false k =
        let n = near _ _ _ k in
        (record { task = s; block = n.0; depth = omega arith }, (record { task = w.task; block = (near _ _ _ n.1).0; depth = w.depth }, tt))
goes_within h bounds p w Restart s d e = tt
goes_within h bounds p w End s d e = tt
goes_within h bounds p w ComputedJump s d e = each_within h p.task p.depth w.task w.depth h.landings bounds.below
goes_within h bounds p w (ComputedStart u) s d e = choose (eqb u p.task) e
  where
    landed : All (Within h) (each_at u 0 h.landings)
    landed = each_within h u 0 s (omega arith) h.landings bounds.below

    choose : (t : Bool) → any_past h.header.count (cond t [] ((p.block + 1) ∷ [])) ≡ false
        → All (Within h) (cond t (each_at u 0 h.landings) (point p.task (p.block + 1) p.depth ∷ each_at u 0 h.landings))
    choose true k = landed
    choose false k = (record { task = w.task; block = (near _ _ _ k).0; depth = w.depth }, landed)

-- what follows a point follows from its flow, and the point breaks nothing
pub follows : (ls : List ℕ) (f : FaultResult) (g : Flow) (p q : Point) → In q (leads_to ls p (unless f g)) → (f ≡ Ok tt) × In q (leads_to ls p g)
follows ls (Ok _) g p q m = (refl, m)
follows ls (Err Foreign) g p q m = absurd m
follows ls (Err Forbidden) g p q m = absurd m
follows ls (Err TooDeep) g p q m = absurd m
follows ls (Err NoCall) g p q m = absurd m
follows ls (Err PastEnd) g p q m = absurd m

pub successors_within : (h : Terms) → WalkBounds h → (bs : List ℕ) (p q : Point) → Within h p → In q (successors h bs p) → Within h q
unfolding successors flow_at fault_at
successors_within h bounds bs p q w m =
    let c = command_at bs p.block in
    let f = follows h.landings (fault_at h bs p) (flow_of h c) p q m in
    let k = passes h c p f.0 in
    all_in (Within h) (leads_to h.landings p (flow_of h c)) (goes_within h bounds p w (flow_of h c) (small_flow h c) k.shallow k.ahead) q f.1

each_long : (t d : ℕ) (ls : List ℕ) → length (each_at t d ls) ≡ length ls
each_long t d [] = refl
each_long t d (a ∷ ls) = ap suc (each_long t d ls)

goes_few : (ls : List ℕ) → length ls ≤ most_landings → (p : Point) (f : Flow) → length (leads_to ls p f) ≤ most_following
goes_few ls few p Next = omega arith
goes_few ls few p Wait = omega arith
goes_few ls few p (Jump a) = omega arith
goes_few ls few p (Branch a) = omega arith
goes_few ls few p (Call a) = omega arith
goes_few ls few p Return = omega arith
goes_few ls few p (Start u a) = choose (eqb u p.task)
  where
    choose : (t : Bool) → length (cond t (point u a 0 ∷ []) (point u a 0 ∷ point p.task (p.block + 1) p.depth ∷ [])) ≤ most_following
    choose true = omega arith
    choose false = omega arith
goes_few ls few p Restart = omega arith
goes_few ls few p End = omega arith
goes_few ls few p ComputedJump = let e = each_long p.task p.depth ls in omega arith
goes_few ls few p (ComputedStart u) = choose (eqb u p.task)
  where
    choose : (t : Bool) → length (cond t (each_at u 0 ls) (point p.task (p.block + 1) p.depth ∷ each_at u 0 ls)) ≤ most_following
    choose true = let e = each_long u 0 ls in omega arith
    choose false = let e = each_long u 0 ls in omega arith

pub successors_few : (h : Terms) → WalkBounds h → (bs : List ℕ) (p : Point) → length (successors h bs p) ≤ most_following
unfolding successors
successors_few h bounds bs p = goes_few h.landings bounds.few p (flow_at h bs p)

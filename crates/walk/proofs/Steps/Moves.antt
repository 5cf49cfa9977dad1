-- A step of a walk is a move by its command's flow: the codes that the walks' sentences name are those that the rows give these flows, by one
-- computation over all rows; and the moves of a flow are the points that follow.
use Prim.Native.Nat.{ℕ, zero, suc, ◌+◌}
use mathlib.Core.Path.{◌≡◌, refl, sym, ap, subst, ◌∙◌}
use mathlib.Core.Bool.{Bool, true, false, ◌&&◌, ◌||◌, not, cond, or-false}
use mathlib.Core.Logic.{inl, inr, ⊎_elim}
use mathlib.Core.List.{List, [], ◌∷◌}
use lib.ListN.{get_or}
use lib.Dec.{T, eqb}
use borrow.Author.Tests.{eqb-true, eqb-false, eq-eqb, ne_eqb, not-true}
use Rattle.limits.specs.Limits.{bias, plc, mathematics}
use Rattle.logic.proofs.Choice.{clash, both}
use Rattle.command_table.specs.Rows.{no_row, rows, row_in, row_of}
use Rattle.command_table.specs.declared.FlowKind.{FlowKind}
use Rattle.command_table.specs.declared.FlowKind.TheVariants as kind
use Rattle.command_table.specs.declared.Row.{Row}
use Rattle.command_table.proofs.EveryRow.{every, every_row, same_test, same_test_is}
use Rattle.command_table.proofs.FlowKinds.{is, is_one_of}
use Rattle.walk_flow.specs.Terms.{Terms}
use Rattle.walk_flow.specs.Flow.{flow_by}
use Rattle.walk_flow.specs.Permission.{boxes, permitted}
use Rattle.walk_point.specs.PointFault.{point}
use Rattle.walk_point.specs.declared.Point.{Point}
use Rattle.walk_flow.specs.declared.Flow.{Flow}
use Rattle.walk_flow.specs.declared.Flow.TheVariants.{Next, Wait, Jump, Branch, Call, Return, Start, Restart, End, ComputedJump, ComputedStart}
use Rattle.walk.specs.Graph.{In}
use Rattle.walk.specs.Walk.{jumps, stays}
use Rattle.walk.specs.Successors.{each_at, leads_to}

-- ---- kinds of flow: what each lets a walk do

abbrev pub jumps_by : FlowKind → Bool
jumps_by k = is k kind.Jump || is k kind.Branch

abbrev pub starts_by : FlowKind → ℕ → Bool
starts_by k u = (is k kind.StartBias && eqb u bias) || ((is k kind.StartPlc && eqb u plc) || (is k kind.StartMathematics && eqb u mathematics))

-- at any landing block
abbrev pub lands_by : FlowKind → ℕ → Bool
lands_by k u = is k kind.ComputedStartBias && eqb u bias

abbrev pub on_by : FlowKind → ℕ → Bool
on_by k task =
    not (is_one_of (kind.Ending ∷ kind.Call ∷ kind.Return ∷ kind.Jump ∷ kind.ComputedJump ∷ []) k || (starts_by k task || lands_by k task))

-- a code and its kind of flow: each code that walks name has a kind of its own, and jumps are jumps
agrees : ℕ → Row → Bool
agrees code r =
    same_test (eqb code 0x51) (is r.flow kind.Ending) &&
    (same_test (eqb code 0x52) (is r.flow kind.Call) &&
    (same_test (eqb code 0x53) (is r.flow kind.Return) &&
    (same_test (eqb code 0x55) (is r.flow kind.Jump) &&
    (same_test (eqb code 0x57) (is r.flow kind.StartBias) &&
    (same_test (eqb code 0x54) (is r.flow kind.StartPlc) &&
    (same_test (eqb code 0x90) (is r.flow kind.StartMathematics) &&
    (same_test (jumps code) (jumps_by r.flow) &&
    (same_test (stays code) (is r.flow kind.Wait) &&
    (same_test (eqb code 0x56) (is r.flow kind.ComputedJump) &&
    (same_test (eqb code 0x5B) (is r.flow kind.ComputedStartBias) &&
    not (is r.flow kind.Nothing)))))))))))

all_agree : T (every agrees rows)
unfolding agrees rows
all_agree = tt

agree : {a b : Bool} → same_test a b ≡ true → a ≡ b
agree e = same_test_is _ _ (subst T (sym e) tt)

-- what a code that some task may use has to do with its kind of flow
pub record Flows (code : ℕ) (k : FlowKind) : Type 0 where
  pub ends : eqb code 0x51 ≡ is k kind.Ending
  pub calls : eqb code 0x52 ≡ is k kind.Call
  pub returns : eqb code 0x53 ≡ is k kind.Return
  pub goes_to : eqb code 0x55 ≡ is k kind.Jump
  pub begins_bias : eqb code 0x57 ≡ is k kind.StartBias
  pub begins_plc : eqb code 0x54 ≡ is k kind.StartPlc
  pub begins_mathematics : eqb code 0x90 ≡ is k kind.StartMathematics
  pub jumping : jumps code ≡ jumps_by k
  pub staying : stays code ≡ is k kind.Wait
  pub computes : eqb code 0x56 ≡ is k kind.ComputedJump
  pub computes_bias : eqb code 0x5B ≡ is k kind.ComputedStartBias
  pub some : is k kind.Nothing ≡ false

flows_of : (code : ℕ) (r : Row) → agrees code r ≡ true → Flows code r.flow
unfolding agrees
flows_of code r e =
    let a = both _ _ e in
    let b = both _ _ a.1 in
    let c = both _ _ b.1 in
    let d = both _ _ c.1 in
    let f = both _ _ d.1 in
    let g = both _ _ f.1 in
    let h = both _ _ g.1 in
    let i = both _ _ h.1 in
    let k = both _ _ i.1 in
    let l = both _ _ k.1 in
    let m = both _ _ l.1 in
    record {
      ends = agree a.0;
      calls = agree b.0;
      returns = agree c.0;
      goes_to = agree d.0;
      begins_bias = agree f.0;
      begins_plc = agree g.0;
      begins_mathematics = agree h.0;
      jumping = agree i.0;
      staying = agree k.0;
      computes = agree l.0;
      computes_bias = agree m.0;
      some = not-true _ m.1;
    }

-- no task may use a code that has no row
no_boxes : (task : ℕ) → get_or (boxes 0) task false ≡ false
no_boxes zero = refl
no_boxes (suc zero) = refl
no_boxes (suc (suc zero)) = refl
no_boxes (suc (suc (suc task))) = refl

pub carried : (h : Terms) (code task : ℕ) → permitted h code task ≡ true → Flows code (row_of code).flow
unfolding permitted row_of
carried h code task e =
    ⊎_elim (λ (n : row_in rows code ≡ no_row). clash (sym e ∙ ap (λ (r : Row). get_or (boxes r.tasks) task false) n ∙ no_boxes task))
    (λ a. flows_of code (row_in rows code) a)
    (every_row agrees rows all_agree code)

-- ---- flows as such: what each lets a walk do

abbrev pub on_f : Flow → ℕ → Bool
on_f Next t = true
on_f Wait t = true
on_f (Jump a) t = false
on_f (Branch a) t = true
on_f (Call a) t = false
on_f Return t = false
on_f (Start u a) t = not (eqb t u)
on_f Restart t = false
on_f End t = false
on_f ComputedJump t = false
on_f (ComputedStart u) t = not (eqb t u)

abbrev pub jump_f : Flow → Bool
jump_f Next = false
jump_f Wait = false
jump_f (Jump a) = true
jump_f (Branch a) = true
jump_f (Call a) = false
jump_f Return = false
jump_f (Start u a) = false
jump_f Restart = false
jump_f End = false
jump_f ComputedJump = false
jump_f (ComputedStart u) = false

abbrev pub call_f : Flow → Bool
call_f Next = false
call_f Wait = false
call_f (Jump a) = false
call_f (Branch a) = false
call_f (Call a) = true
call_f Return = false
call_f (Start u a) = false
call_f Restart = false
call_f End = false
call_f ComputedJump = false
call_f (ComputedStart u) = false

abbrev pub wait_f : Flow → Bool
wait_f Next = false
wait_f Wait = true
wait_f (Jump a) = false
wait_f (Branch a) = false
wait_f (Call a) = false
wait_f Return = false
wait_f (Start u a) = false
wait_f Restart = false
wait_f End = false
wait_f ComputedJump = false
wait_f (ComputedStart u) = false

abbrev pub start_f : Flow → ℕ → Bool
start_f Next v = false
start_f Wait v = false
start_f (Jump a) v = false
start_f (Branch a) v = false
start_f (Call a) v = false
start_f Return v = false
start_f (Start u a) v = eqb v u
start_f Restart v = false
start_f End v = false
start_f ComputedJump v = false
start_f (ComputedStart u) v = false

-- any landing block of its own task
abbrev pub compute_f : Flow → Bool
compute_f Next = false
compute_f Wait = false
compute_f (Jump a) = false
compute_f (Branch a) = false
compute_f (Call a) = false
compute_f Return = false
compute_f (Start u a) = false
compute_f Restart = false
compute_f End = false
compute_f ComputedJump = true
compute_f (ComputedStart u) = false

-- any landing block of a task that it starts
abbrev pub land_f : Flow → ℕ → Bool
land_f Next v = false
land_f Wait v = false
land_f (Jump a) v = false
land_f (Branch a) v = false
land_f (Call a) v = false
land_f Return v = false
land_f (Start u a) v = false
land_f Restart v = false
land_f End v = false
land_f ComputedJump v = false
land_f (ComputedStart u) v = eqb v u

-- the block that a flow names is the operand
abbrev pub Names : ℕ → Flow → Type 0
Names word Next = Unit {0}
Names word Wait = Unit {0}
Names word (Jump a) = a ≡ word
Names word (Branch a) = a ≡ word
Names word (Call a) = a ≡ word
Names word Return = Unit {0}
Names word (Start u a) = a ≡ word
Names word Restart = Unit {0}
Names word End = Unit {0}
Names word ComputedJump = Unit {0}
Names word (ComputedStart u) = Unit {0}

pub record Flowing (k : FlowKind) (word : ℕ) (f : Flow) : Type 0 where
  pub on : (t : ℕ) → on_by k t ≡ on_f f t
  pub jump : jumps_by k ≡ jump_f f
  pub call : is k kind.Call ≡ call_f f
  pub start : (v : ℕ) → starts_by k v ≡ start_f f v
  pub stay : is k kind.Wait ≡ wait_f f
  pub compute : is k kind.ComputedJump ≡ compute_f f
  pub land : (v : ℕ) → lands_by k v ≡ land_f f v
  pub names : Names word f

-- a flow lets a walk do what its kind says
module _ (x word : ℕ) where
  ends : (t : Bool) → Flowing kind.Ending word (cond t Restart End)
  ends true = record { on = λ t. refl; jump = refl; call = refl; start = λ v. refl; stay = refl; compute = refl; land = λ v. refl; names = tt }
  ends false = record { on = λ t. refl; jump = refl; call = refl; start = λ v. refl; stay = refl; compute = refl; land = λ v. refl; names = tt }

  pub flowing : (k : FlowKind) → is k kind.Nothing ≡ false → Flowing k word (flow_by k x word)
  flowing kind.Nothing e = clash e
  flowing kind.Next e = record { on = λ t. refl; jump = refl; call = refl; start = λ v. refl; stay = refl; compute = refl; land = λ v. refl; names = tt }
  flowing kind.Wait e = record { on = λ t. refl; jump = refl; call = refl; start = λ v. refl; stay = refl; compute = refl; land = λ v. refl; names = tt }
  flowing kind.Jump e = record { on = λ t. refl; jump = refl; call = refl; start = λ v. refl; stay = refl; compute = refl; land = λ v. refl; names = refl }
  flowing kind.Branch e = record { on = λ t. refl; jump = refl; call = refl; start = λ v. refl; stay = refl; compute = refl; land = λ v. refl; names = refl }
  flowing kind.Call e = record { on = λ t. refl; jump = refl; call = refl; start = λ v. refl; stay = refl; compute = refl; land = λ v. refl; names = refl }
  flowing kind.Return e = record { on = λ t. refl; jump = refl; call = refl; start = λ v. refl; stay = refl; compute = refl; land = λ v. refl; names = tt }
  flowing kind.StartBias e =
      record { on = λ t. ap not (or-false _ ∙ or-false (eqb t bias)); jump = refl; call = refl; start = λ v. or-false _; stay = refl; compute = refl; land = λ v. refl; names = refl }
  flowing kind.StartPlc e =
      record { on = λ t. ap not (or-false _ ∙ or-false (eqb t plc)); jump = refl; call = refl; start = λ v. or-false _; stay = refl; compute = refl; land = λ v. refl; names = refl }
  flowing kind.StartMathematics e = record { on = λ t. ap not (or-false (eqb t mathematics)); jump = refl; call = refl; start = λ v. refl; stay = refl; compute = refl; land = λ v. refl; names = refl }
  flowing kind.Ending e = ends (eqb x 0)
  flowing kind.ComputedJump e =
      record { on = λ t. refl; jump = refl; call = refl; start = λ v. refl; stay = refl; compute = refl; land = λ v. refl; names = tt }
  flowing kind.ComputedStartBias e =
      record { on = λ t. refl; jump = refl; call = refl; start = λ v. refl; stay = refl; compute = refl; land = λ v. refl; names = tt }

-- ---- moves

-- a move from p by the flow f, with the operand word and these landing blocks
pub data Move (ls : List ℕ) (f : Flow) (word : ℕ) (p : Point) : Point → Type 0 where
  on : on_f f p.task ≡ true → Move ls f word p (point p.task (p.block + 1) p.depth)
  jump : jump_f f ≡ true → Move ls f word p (point p.task word p.depth)
  call : call_f f ≡ true → Move ls f word p (point p.task word (p.depth + 1))
  behind : call_f f ≡ true → Move ls f word p (point p.task (p.block + 1) p.depth)
  start : (u : ℕ) → start_f f u ≡ true → Move ls f word p (point u word 0)
  compute : (a : ℕ) → compute_f f ≡ true → In a ls → Move ls f word p (point p.task a p.depth)
  land : (u a : ℕ) → land_f f u ≡ true → In a ls → Move ls f word p (point u a 0)

-- the points of a list of blocks
pub each_in : (t d : ℕ) (ls : List ℕ) (a : ℕ) → In a ls → In (point t a d) (each_at t d ls)
each_in t d [] a m = absurd m
each_in t d (x ∷ ls) a (inl e) = inl (ap (λ (b : ℕ). point t b d) e)
each_in t d (x ∷ ls) a (inr m) = inr (each_in t d ls a m)

pub record EachIn (t d : ℕ) (ls : List ℕ) (q : Point) : Type 0 where
  pub block : ℕ
  pub member : In block ls
  pub is : q ≡ point t block d

pub in_each : (t d : ℕ) (ls : List ℕ) (q : Point) → In q (each_at t d ls) → EachIn t d ls q
in_each t d [] q m = absurd m
in_each t d (x ∷ ls) q (inl e) = record { block = x; member = inl refl; is = e }
in_each t d (x ∷ ls) q (inr m) = let k = in_each t d ls q m in record { block = k.block; member = inr k.member; is = k.is }

-- a move by the flow leads to a point that follows
module _ (ls : List ℕ) (word : ℕ) (p : Point) where
  abbrev beyond : Point
  beyond = point p.task (p.block + 1) p.depth

  on_in : (f : Flow) → on_f f p.task ≡ true → In beyond (leads_to ls p f)
  on_in Next e = inl refl
  on_in Wait e = inl refl
  on_in (Jump a) e = clash (sym e)
  on_in (Branch a) e = inr (inl refl)
  on_in (Call a) e = clash (sym e)
  on_in Return e = clash (sym e)
  on_in (Start u a) e = beside u a (not-true (eqb p.task u) e)
    where
      beside : (u a : ℕ) → eqb p.task u ≡ false → In beyond (cond (eqb u p.task) (point u a 0 ∷ []) (point u a 0 ∷ beyond ∷ []))
      beside u a i = rw (ne_eqb u p.task (λ j. eqb-false p.task u i (sym j))) (inr (inl refl))
  on_in Restart e = clash (sym e)
  on_in End e = clash (sym e)
  on_in ComputedJump e = clash (sym e)
  on_in (ComputedStart u) e = rw (ne_eqb u p.task (λ j. eqb-false p.task u (not-true (eqb p.task u) e) (sym j))) (inl refl)

  jump_in : (f : Flow) → Names word f → jump_f f ≡ true → In (point p.task word p.depth) (leads_to ls p f)
  jump_in Next n e = clash (sym e)
  jump_in Wait n e = clash (sym e)
  jump_in (Jump a) n e = rw n (inl refl)
  jump_in (Branch a) n e = rw n (inl refl)
  jump_in (Call a) n e = clash (sym e)
  jump_in Return n e = clash (sym e)
  jump_in (Start u a) n e = clash (sym e)
  jump_in Restart n e = clash (sym e)
  jump_in End n e = clash (sym e)
  jump_in ComputedJump n e = clash (sym e)
  jump_in (ComputedStart u) n e = clash (sym e)

  call_in : (f : Flow) → Names word f → call_f f ≡ true → In (point p.task word (p.depth + 1)) (leads_to ls p f)
  call_in Next n e = clash (sym e)
  call_in Wait n e = clash (sym e)
  call_in (Jump a) n e = clash (sym e)
  call_in (Branch a) n e = clash (sym e)
  call_in (Call a) n e = rw n (inl refl)
  call_in Return n e = clash (sym e)
  call_in (Start u a) n e = clash (sym e)
  call_in Restart n e = clash (sym e)
  call_in End n e = clash (sym e)
  call_in ComputedJump n e = clash (sym e)
  call_in (ComputedStart u) n e = clash (sym e)

  behind_in : (f : Flow) → call_f f ≡ true → In beyond (leads_to ls p f)
  behind_in Next e = clash (sym e)
  behind_in Wait e = clash (sym e)
  behind_in (Jump a) e = clash (sym e)
  behind_in (Branch a) e = clash (sym e)
  behind_in (Call a) e = inr (inl refl)
  behind_in Return e = clash (sym e)
  behind_in (Start u a) e = clash (sym e)
  behind_in Restart e = clash (sym e)
  behind_in End e = clash (sym e)
  behind_in ComputedJump e = clash (sym e)
  behind_in (ComputedStart u) e = clash (sym e)

  start_in : (f : Flow) → Names word f → (u : ℕ) → start_f f u ≡ true → In (point u word 0) (leads_to ls p f)
  start_in Next n v e = clash (sym e)
  start_in Wait n v e = clash (sym e)
  start_in (Jump a) n v e = clash (sym e)
  start_in (Branch a) n v e = clash (sym e)
  start_in (Call a) n v e = clash (sym e)
  start_in Return n v e = clash (sym e)
  start_in (Start u a) n v e = rw (eqb-true v u e, ← n) (first u a (eqb u p.task))
    where
      first : (u a : ℕ) (t : Bool) → In (point u a 0) (cond t (point u a 0 ∷ []) (point u a 0 ∷ beyond ∷ []))
      first u a true = inl refl
      first u a false = inl refl
  start_in Restart n v e = clash (sym e)
  start_in End n v e = clash (sym e)
  start_in ComputedJump n v e = clash (sym e)
  start_in (ComputedStart u) n v e = clash (sym e)

  compute_in : (f : Flow) → compute_f f ≡ true → (a : ℕ) → In a ls → In (point p.task a p.depth) (leads_to ls p f)
  compute_in Next e a m = clash (sym e)
  compute_in Wait e a m = clash (sym e)
  compute_in (Jump b) e a m = clash (sym e)
  compute_in (Branch b) e a m = clash (sym e)
  compute_in (Call b) e a m = clash (sym e)
  compute_in Return e a m = clash (sym e)
  compute_in (Start u b) e a m = clash (sym e)
  compute_in Restart e a m = clash (sym e)
  compute_in End e a m = clash (sym e)
  compute_in ComputedJump e a m = each_in p.task p.depth ls a m
  compute_in (ComputedStart u) e a m = clash (sym e)

  land_in : (f : Flow) (v : ℕ) → land_f f v ≡ true → (a : ℕ) → In a ls → In (point v a 0) (leads_to ls p f)
  land_in Next v e a m = clash (sym e)
  land_in Wait v e a m = clash (sym e)
  land_in (Jump b) v e a m = clash (sym e)
  land_in (Branch b) v e a m = clash (sym e)
  land_in (Call b) v e a m = clash (sym e)
  land_in Return v e a m = clash (sym e)
  land_in (Start u b) v e a m = clash (sym e)
  land_in Restart v e a m = clash (sym e)
  land_in End v e a m = clash (sym e)
  land_in ComputedJump v e a m = clash (sym e)
  land_in (ComputedStart u) v e a m = rw (eqb-true v u e) (there (eqb u p.task))
    where
      there : (t : Bool) → In (point u a 0) (cond t (each_at u 0 ls) (beyond ∷ each_at u 0 ls))
      there true = each_in u 0 ls a m
      there false = inr (each_in u 0 ls a m)

  pub moved : (f : Flow) → Names word f → (q : Point) → Move ls f word p q → In q (leads_to ls p f)
  moved f n _ (Move.on e) = on_in f e
  moved f n _ (Move.jump e) = jump_in f n e
  moved f n _ (Move.call e) = call_in f n e
  moved f n _ (Move.behind e) = behind_in f e
  moved f n _ (Move.start u e) = start_in f n u e
  moved f n _ (Move.compute a e m) = compute_in f e a m
  moved f n _ (Move.land u a e m) = land_in f u e a m

  -- and what follows is such a move
  pub moves : (f : Flow) → Names word f → (q : Point) → In q (leads_to ls p f) → Move ls f word p q
  moves Next n q (inl e) = rw e (Move.on refl)
  moves Next n q (inr m) = absurd m
  moves Wait n q (inl e) = rw e (Move.on refl)
  moves Wait n q (inr m) = absurd m
  moves (Jump a) n q (inl e) = rw (e, n) (Move.jump refl)
  moves (Jump a) n q (inr m) = absurd m
  moves (Branch a) n q (inl e) = rw (e, n) (Move.jump refl)
  moves (Branch a) n q (inr (inl e)) = rw e (Move.on refl)
  moves (Branch a) n q (inr (inr m)) = absurd m
  moves (Call a) n q (inl e) = rw (e, n) (Move.call refl)
  moves (Call a) n q (inr (inl e)) = rw e (Move.behind refl)
  moves (Call a) n q (inr (inr m)) = absurd m
  moves Return n q m = absurd m
  moves (Start u a) n q m = begun (eqb u p.task) refl m
    where
      there : (q : Point) → q ≡ point u a 0 → Move ls (Start u a) word p q
      there q e = rw (e, n) (Move.start u (eq-eqb u u refl))

      begun : (t : Bool) → eqb u p.task ≡ t → In q (cond t (point u a 0 ∷ []) (point u a 0 ∷ beyond ∷ [])) → Move ls (Start u a) word p q
      begun true i (inl e) = there q e
      begun true i (inr m) = absurd m
      begun false i (inl e) = there q e
      begun false i (inr (inl e)) = rw e (Move.on (ap not (ne_eqb p.task u (λ j. eqb-false u p.task i (sym j)))))
      begun false i (inr (inr m)) = absurd m
  moves Restart n q m = absurd m
  moves End n q m = absurd m
  moves ComputedJump n q m = let k = in_each p.task p.depth ls q m in rw k.is (Move.compute k.block refl k.member)
  moves (ComputedStart u) n q m = begun (eqb u p.task) refl m
    where
      there : In q (each_at u 0 ls) → Move ls (ComputedStart u) word p q
      there m = let k = in_each u 0 ls q m in rw k.is (Move.land u k.block (eq-eqb u u refl) k.member)

      begun : (t : Bool) → eqb u p.task ≡ t → In q (cond t (each_at u 0 ls) (beyond ∷ each_at u 0 ls)) → Move ls (ComputedStart u) word p q
      begun true i m = there m
      begun false i (inl e) = rw e (Move.on (ap not (ne_eqb p.task u (λ j. eqb-false u p.task i (sym j)))))
      begun false i (inr m) = there m

-- What is shown of every command, and how the forms of effects come by it: the outcome is in the flow, a pending time goes with a wait and is not
-- due, a halt has its reason, good values stay good, the notes of BIAS stay, and a move is asked for only where one starts.
use Rattle.std.specs.Prelude.{Option, Some, None}
use Prim.Native.Nat.{ℕ, ◌+◌, ◌≤◌}
use mathlib.Core.Path.{◌≡◌, refl, sym, ap, ◌∙◌}
use mathlib.Core.Bool.{Bool, true, false, not, ◌||◌, cond, or-true}
use mathlib.Core.Logic.{inl, inr, ⊎_elim}
use native.Mathlib.Omega.{arith}
use mathlib.Core.List.{List, [], ◌∷◌}
use lib.Dec.{eqb}
use lib.IntN.{ℤ, pos, negsuc}
use lib.Signed.{quot_z}
use borrow.Author.Tests.{eqb-true, eqb-false, eq-eqb, not-false}
use mir.Syntax.{w32}
use mir.Val.{SFits}
use Rattle.limits.specs.Limits.{most_time, longest_wait}
use Rattle.num_arith.specs.Wrap.{wrap}
use Rattle.num_arith.specs.Ops.{quotient, eq_z}
use Rattle.num_arith.proofs.Cut.{wrap_fits}
use Rattle.logic.proofs.Choice.{clash, neither, or_is}
use Rattle.command_table.specs.Rows.{row_of}
use Rattle.command_operands.specs.declared.Command.{Command}
use Rattle.command_judge.specs.BlockFault.{in_range}
use Rattle.walk_flow.specs.Flow.{flow_by}
use Rattle.state.specs.State.{first_axis, axis_of, with_variable, with_axis, with_mark}
use Rattle.state.specs.Wait.{due}
use Rattle.state.specs.GoodState.{GoodWait, GoodAxis, GoodValues, InRange}
use Rattle.state.specs.declared.Axis.{Axis}
use Rattle.state.specs.declared.Values.{Values}
use Rattle.machine.specs.declared.Context.{Context}
use Rattle.machine.specs.Effect.{effect, sets, flows, jump_if, halts, assigns, is_set, within, natural, variable, started, moves, waits, waits_variable}
use Rattle.machine.specs.Effect.{parameter, divides, time_of, is_landing, lands}
use Rattle.machine.specs.Engine.{is_wait, is_move, is_halt}
use Rattle.machine.specs.StepRule.{NoLandingBlock, Reason, is_move_code}
use Rattle.walk.specs.Graph as walk
use Rattle.machine.specs.Allows.{Allows}
use Rattle.machine.specs.declared.Cause.{Cause}
use Rattle.machine.specs.declared.Cause.TheVariants.{ZeroDivisor, BadContent, NoLanding}
use Rattle.machine.specs.declared.Effect.{Effect}
use Rattle.machine.specs.declared.Request.{Request}
use Rattle.machine.specs.declared.Request.TheVariants.{Stop}
use Rattle.machine.specs.declared.Outcome.{Outcome}
use Rattle.machine.specs.declared.Outcome.TheVariants.{GoOn, Stay, Jump, Call, Return, Start, Restart, End, Halt}
use Rattle.machine.proofs.Rows.Waits.{begins, goes_on}
use Rattle.state.proofs.Setters.{variable_good, good_axis, axis_good, mark_good}
use Rattle.machine.proofs.Rows.InRange.{natural_in}

-- ---- what is shown

-- a time is pending at 59 and 5A alone
abbrev pub timeless : ℕ → Outcome → Bool
timeless code (Stay time turns) = not (is_set time) || is_wait code
timeless code GoOn = true
timeless code (Halt q) = true
timeless code (Jump a) = true
timeless code (Call a) = true
timeless code Return = true
timeless code (Start u a) = true
timeless code Restart = true
timeless code End = true

-- the wait of a command that stays is a good one
abbrev pub Staying : ℕ → Outcome → Type 0
Staying model (Stay time turns) = GoodWait model time turns
Staying model GoOn = Unit {0}
Staying model (Halt q) = Unit {0}
Staying model (Jump a) = Unit {0}
Staying model (Call a) = Unit {0}
Staying model Return = Unit {0}
Staying model (Start u a) = Unit {0}
Staying model Restart = Unit {0}
Staying model End = Unit {0}

-- a command that halts has a reason
abbrev pub Halting : List ℕ → Command → Values → ℕ → Outcome → Type 0
Halting ls c v time (Halt q) = Reason ls c v time q
Halting ls c v time GoOn = Unit {0}
Halting ls c v time (Stay t k) = Unit {0}
Halting ls c v time (Jump a) = Unit {0}
Halting ls c v time (Call a) = Unit {0}
Halting ls c v time Return = Unit {0}
Halting ls c v time (Start u a) = Unit {0}
Halting ls c v time Restart = Unit {0}
Halting ls c v time End = Unit {0}

-- what 5 to 8 and 23 promise of a command in an image of `count` blocks: its operands are in the ranges of its row, and numbers of their width
abbrev pub Ranged : ℕ → Command → Type 0
Ranged count c = in_range (row_of c.code).ranges count c ≡ true

pub record Fit (count : ℕ) (c : Command) : Type 0 where
  pub word : c.word ≤ 65535
  pub value : SFits w32 c.value
  pub ranges : Ranged count c

-- an outcome of the command c, whose code is k
pub record Lawful (ls : List ℕ) (k : ℕ) (c : Command) (g : Context) (v : Values) (o : Outcome) : Type 0 where
  pub flow : Allows ls (flow_by (row_of k).flow c.x c.word) o
  pub calm : timeless k o ≡ true
  pub wait : (count : ℕ) → Fit count c → GoodWait g.drive.model g.time g.turns → Staying g.drive.model o
  pub halt : (count : ℕ) → Ranged count c → Halting ls c v g.time o

-- an effect
pub record Law (ls : List ℕ) (k : ℕ) (c : Command) (g : Context) (v : Values) (e : Effect) : Type 0 where
  pub outcome : Lawful ls k c g v e.outcome
  pub values : (count : ℕ) → Fit count c → GoodValues v → GoodValues e.values
  -- a halt changes no values and asks for no motion
  pub still : is_halt e.outcome ≡ true → (e.values ≡ v) × (e.request ≡ None)
  -- no command touches the notes of BIAS
  pub notes : e.values.notes ≡ v.notes
  -- a move is asked for by a move that starts
  pub move : is_move e.request ≡ true → (is_move_code k ≡ true) × (started g v.motion v.notes ≡ true)

-- ---- outcomes

-- neither a stay nor a halt
abbrev simple : Outcome → Bool
simple (Stay time turns) = false
simple (Halt q) = false
simple GoOn = true
simple (Jump a) = true
simple (Call a) = true
simple Return = true
simple (Start u a) = true
simple Restart = true
simple End = true

same_number : (z : ℤ) (a : ℕ) → eq_z z (pos a) ≡ true → z ≡ pos a
same_number (pos n) a e = ap pos (eqb-true n a e)
same_number (negsuc n) a e = clash (sym e)

number_same : (z : ℤ) (a : ℕ) → z ≡ pos a → eq_z z (pos a) ≡ true
number_same z a e = rw e (eq-eqb a a refl)

-- a content is the number of a landing block, or of none
pub landing_is : (ls : List ℕ) (z : ℤ) → is_landing ls z ≡ true → walk.In (natural z) ls × (z ≡ pos (natural z))
landing_is [] z e = clash (sym e)
landing_is (a ∷ ls) z e =
    ⊎_elim (λ i. let q = same_number z a i in (inl (ap natural q), q ∙ sym (ap (λ (y : ℤ). pos (natural y)) q)))
    (λ i. let k = landing_is ls z i in (inr k.0, k.1))
    (or_is (eq_z z (pos a)) (is_landing ls z) e)

pub no_landing : (ls : List ℕ) (z : ℤ) → is_landing ls z ≡ false → NoLandingBlock ls z
no_landing [] z e a m i = absurd m
no_landing (b ∷ ls) z e a (inl j) i = clash (sym (number_same z b (i ∙ ap pos j)) ∙ (neither (eq_z z (pos b)) (is_landing ls z) e).0)
no_landing (b ∷ ls) z e a (inr m) i = no_landing ls z (neither (eq_z z (pos b)) (is_landing ls z) e).1 a m i

pub none_landing : (ls : List ℕ) (z : ℤ) → NoLandingBlock ls z → is_landing ls z ≡ false
none_landing ls z n = go (is_landing ls z) refl
  where
    go : (t : Bool) → is_landing ls z ≡ t → t ≡ false
    go true e = let k = landing_is ls z e in absurd (n (natural z) k.0 k.1)
    go false e = refl

module _ (ls : List ℕ) (k : ℕ) (c : Command) (g : Context) (v : Values) where
  -- in the flow of the code
  abbrev In : Outcome → Type 0
  In o = Allows ls (flow_by (row_of k).flow c.x c.word) o

  pub simply : (o : Outcome) → simple o ≡ true → In o → Lawful ls k c g v o
  simply (Stay time turns) s m = clash (sym s)
  simply (Halt q) s m = clash (sym s)
  simply GoOn s m = record { flow = m; calm = refl; wait = λ _ _ _. tt; halt = λ _ _. tt }
  simply (Jump a) s m = record { flow = m; calm = refl; wait = λ _ _ _. tt; halt = λ _ _. tt }
  simply (Call a) s m = record { flow = m; calm = refl; wait = λ _ _ _. tt; halt = λ _ _. tt }
  simply Return s m = record { flow = m; calm = refl; wait = λ _ _ _. tt; halt = λ _ _. tt }
  simply (Start u a) s m = record { flow = m; calm = refl; wait = λ _ _ _. tt; halt = λ _ _. tt }
  simply Restart s m = record { flow = m; calm = refl; wait = λ _ _ _. tt; halt = λ _ _. tt }
  simply End s m = record { flow = m; calm = refl; wait = λ _ _ _. tt; halt = λ _ _. tt }

  stays_on : In (Stay 0 0) → Lawful ls k c g v (Stay 0 0)
  stays_on m = record { flow = m; calm = refl; wait = λ _ _ _. GoodWait.none; halt = λ _ _. tt }

  stays_for : (time turns : ℕ) → is_wait k ≡ true → In (Stay time turns)
      → ((count : ℕ) → Fit count c → GoodWait g.drive.model g.time g.turns → GoodWait g.drive.model time turns) → Lawful ls k c g v (Stay time turns)
  stays_for time turns w m h = record {
    flow = m;
    calm = ap (λ (b : Bool). not (is_set time) || b) w ∙ or-true (not (is_set time));
    wait = h;
    halt = λ _ _. tt;
  }

  halts_by : (q : Cause) → In (Halt q) → ((count : ℕ) → Ranged count c → Reason ls c v g.time q) → Lawful ls k c g v (Halt q)
  halts_by q m r = record { flow = m; calm = refl; wait = λ _ _ _. tt; halt = r }

  pub either : (t : Bool) (a b : Outcome) → (t ≡ true → Lawful ls k c g v a) → (t ≡ false → Lawful ls k c g v b) → Lawful ls k c g v (cond t a b)
  either true a b p q = p refl
  either false a b p q = q refl

  either_effect : (t : Bool) (a b : Effect) → (t ≡ true → Law ls k c g v a) → (t ≡ false → Law ls k c g v b) → Law ls k c g v (cond t a b)
  either_effect true a b p q = p refl
  either_effect false a b p q = q refl

  -- ---- effects

  -- nothing but the task changes
  pub flows_law : (o : Outcome) → Lawful ls k c g v o → Law ls k c g v (flows v o)
  flows_law o l = record { outcome = l; values = λ _ _ h. h; still = λ _. (refl, refl); notes = refl; move = λ i. clash (sym i) }

  halts_law : (q : Cause) → In (Halt q) → ((count : ℕ) → Ranged count c → Reason ls c v g.time q) → Law ls k c g v (halts q v)
  halts_law q m r = flows_law (Halt q) (halts_by q m r)

  -- the values change but for the notes, and the task goes on
  pub effect_law : (w : Values) (m : Option Request) → w.notes ≡ v.notes
      → (is_move m ≡ true → (is_move_code k ≡ true) × (started g v.motion v.notes ≡ true)) → In GoOn
      → ((count : ℕ) → Fit count c → GoodValues v → GoodValues w) → Law ls k c g v (effect w m GoOn)
  effect_law w m n s further h = record { outcome = simply GoOn refl further; values = h; still = λ i. clash (sym i); notes = n; move = s }

  pub sets_law : (w : Values) → w.notes ≡ v.notes → In GoOn → ((count : ℕ) → Fit count c → GoodValues v → GoodValues w) → Law ls k c g v (sets w)
  sets_law w n further h = effect_law w None n (λ i. clash (sym i)) further h

  -- a stop
  pub stop_law : (mode deceleration : ℕ) → In GoOn → Law ls k c g v (effect v (Some (Stop mode deceleration)) GoOn)
  stop_law mode deceleration further = effect_law v (Some (Stop mode deceleration)) refl (λ i. clash (sym i)) further (λ _ _ d. d)

  -- the axis changes
  pub axis_law : (put : Axis → Axis) → In GoOn → ((count : ℕ) → Fit count c → GoodValues v → GoodAxis (put (axis_of first_axis v)))
      → Law ls k c g v (sets (with_axis first_axis (put (axis_of first_axis v)) v))
  axis_law put further h =
      let a = put (axis_of first_axis v) in sets_law (with_axis first_axis a v) refl further (λ count f d. axis_good v d first_axis a (h count f d))

  pub assigns_law : (z : ℤ) → In GoOn → ((count : ℕ) → Fit count c → GoodValues v → SFits w32 z) → Law ls k c g v (assigns c z v)
  assigns_law z further h = sets_law (with_variable c.x z v) refl further (λ count f d. variable_good v d c.x z (h count f d))

  pub jump_law : (t : Bool) (a : ℕ) → In (Jump a) → In GoOn → Law ls k c g v (jump_if t a v)
  jump_law t a m further = flows_law (cond t (Jump a) GoOn) (either t (Jump a) GoOn (λ _. simply (Jump a) refl m) (λ _. simply GoOn refl further))

  pub moves_law : (kind : Axis → Request) → is_move_code k ≡ true → In GoOn → In (Stay 0 0) → Law ls k c g v (moves kind g c v)
  moves_law kind code further again =
      either_effect (started g v.motion v.notes) (effect (with_mark 0 v) (Some (kind (axis_of first_axis v))) GoOn) (flows v (Stay 0 0))
      (λ s. effect_law (with_mark 0 v) (Some (kind (axis_of first_axis v))) refl (λ _. (code, s)) further (λ _ _ d. mark_good v d 0 (omega arith)))
      (λ _. flows_law (Stay 0 0) (stays_on again))

  -- on, or the same again
  pub stays_law : (t : Bool) → In GoOn → In (Stay 0 0) → Law ls k c g v (flows v (cond t GoOn (Stay 0 0)))
  stays_law t further again = flows_law (cond t GoOn (Stay 0 0)) (either t GoOn (Stay 0 0) (λ _. simply GoOn refl further) (λ _. stays_on again))

  pub waits_lawful : (time : ℕ) → is_wait k ≡ true → In GoOn → ((t n : ℕ) → In (Stay t n))
      → (eqb g.time 0 ≡ true → (count : ℕ) → Fit count c → time ≤ longest_wait) → Lawful ls k c g v (waits time g)
  waits_lawful time w further again short =
      either (eqb g.time 0) _ _
      (λ z. either (due g.drive.model time 0) GoOn (Stay time 0) (λ _. simply GoOn refl further)
      (λ e. stays_for time 0 w (again time 0) (λ count f h. begins g.drive.model time (short z count f) e)))
      (λ z. either (due g.drive.model g.time (g.turns + 1)) GoOn (Stay g.time (g.turns + 1)) (λ _. simply GoOn refl further)
      (λ e. stays_for g.time (g.turns + 1) w (again g.time (g.turns + 1))
      (λ count f h. goes_on g.drive.model g.time g.turns h (eqb-false g.time 0 z) e)))

  pub parameter_law : (most : ℕ) (put : ℕ → Axis → Axis) → In GoOn → In (Halt BadContent)
      → ((a : Axis) → GoodAxis a → (n : ℕ) → InRange most n → GoodAxis (put n a))
      → (within 1 most (variable v c.x) ≡ false → Reason ls c v g.time BadContent)
      → Law ls k c g v (parameter most put g c v)
  parameter_law most put further stops keep reason =
      let z = variable v c.x in
      let a = axis_of first_axis v in
      either_effect (within 1 most z) (sets (with_axis first_axis (put (natural z) a) v)) (halts BadContent v)
      (λ e. axis_law (put (natural z)) further (λ _ _ d. keep a (good_axis v d first_axis) (natural z) (natural_in most z e)))
      (λ e. halts_law BadContent stops (λ _ _. reason e))

  -- a quotient fits, and there is none by zero alone
  pub divides_law : (a b : ℤ) → In GoOn → In (Halt ZeroDivisor) → (b ≡ pos 0 → (count : ℕ) → Ranged count c → Reason ls c v g.time ZeroDivisor)
      → Law ls k c g v (divides c (quotient a b) v)
  unfolding divides quotient
  divides_law a b further stops reason = go (eq_z b (pos 0)) refl
    where
      go : (t : Bool) → eq_z b (pos 0) ≡ t → Law ls k c g v (divides c (cond t None (Some (wrap w32 (quot_z a b)))) v)
      go true e = halts_law ZeroDivisor stops (reason (same_number b 0 e))
      go false e = assigns_law (wrap w32 (quot_z a b)) further (λ _ _ _. wrap_fits w32 (quot_z a b))

  pub waits_variable_law : is_wait k ≡ true → In GoOn → ((t n : ℕ) → In (Stay t n)) → In (Halt BadContent)
      → (g.time ≡ 0 → within 0 most_time (variable v c.x) ≡ false → Reason ls c v g.time BadContent)
      → (g.time ≡ 0 → within 0 most_time (variable v c.x) ≡ true → time_of g.drive.model (natural (variable v c.x)) ≤ longest_wait)
      → Law ls k c g v (waits_variable g c v)
  waits_variable_law w further again stops reason short =
      let z = variable v c.x in
      let time = time_of g.drive.model (natural z) in
      either_effect (is_set g.time || within 0 most_time z) (flows v (waits time g)) (halts BadContent v)
      (λ e. flows_law (waits time g) (waits_lawful time w further again (λ i count f. short (eqb-true g.time 0 i) (read i e))))
      (λ e. let n = neither (is_set g.time) (within 0 most_time z) e in
      halts_law BadContent stops (λ _ _. reason (eqb-true g.time 0 (not-false _ n.0)) n.1))
    where
      read : eqb g.time 0 ≡ true → (is_set g.time || within 0 most_time (variable v c.x)) ≡ true → within 0 most_time (variable v c.x) ≡ true
      read i e = rw i at e

  -- to the landing block that the variable holds, or 22
  pub lands_law : (to : ℕ → Outcome) → ((a : ℕ) → simple (to a) ≡ true) → ((a : ℕ) → walk.In a ls → In (to a)) → In (Halt NoLanding)
      → (NoLandingBlock ls (variable v c.x) → Reason ls c v g.time NoLanding) → Law ls k c g v (lands ls to g c v)
  lands_law to plain there stops reason =
      let z = variable v c.x in
      either_effect (is_landing ls z) (flows v (to (natural z))) (halts NoLanding v)
      (λ e. let l = landing_is ls z e in flows_law (to (natural z)) (simply (to (natural z)) (plain (natural z)) (there (natural z) l.0)))
      (λ e. halts_law NoLanding stops (λ _ _. reason (no_landing ls z e)))

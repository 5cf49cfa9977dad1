-- 16 and good states say the same: a good state passes every test, and a state that passes them, and whose lists have the lengths of the layout, is good.
use Prim.Native.Nat.{ℕ, zero, suc, ◌<◌, ◌≤◌}
use native.Mathlib.Omega.{arith}
use mathlib.Core.Path.{◌≡◌, refl, sym, subst}
use mathlib.Core.Bool.{Bool, true, false, ◌&&◌, ◌||◌, not}
use mathlib.Core.List.{List}
use mathlib.Core.Logic.{◌⊎◌, inl, inr, ⊎_elim}
use lib.Dec.{eqb, ltb, leb}
use lib.IntN.{pos}
use lib.ListN.{length, get_or, get_or-eq_default}
use borrow.Author.Tests.{ltb-true, leb-true, eqb-true, not-true, lt-ltb, le-leb, eq-eqb}
use mir.Syntax.{w32}
use mir.Val.{SFits}
use Rattle.limits.specs.Limits.{bias, plc, mathematics, task_count, most_depth, most_landings, cells, most_level, most_speed, most_ramp, longest_wait, up_to}
use Rattle.image_header.specs.Rows.{accepts, accepts_landings}
use Rattle.image_header.specs.declared.Header.{Header}
use Rattle.image_header.proofs.Rows.{accepted_good, good_accepted, landings_accepted, good_landings_accepted, most_of_lem}
use Rattle.logic.proofs.Choice.{by, both}
use Rattle.logic.proofs.Each.{each_passes, all_pass}
use Rattle.state.specs.GoodState.{GoodWait, GoodTask, InRange, GoodCells, GoodMotion, GoodValues, GoodState}
use Rattle.state.specs.State.{halted, task_at}
use Rattle.state.specs.Wait.{due}
use Rattle.state.specs.declared.Task.{Task}
use Rattle.state.specs.declared.Cells.{Cells}
use Rattle.state.specs.declared.Motion.{Motion}
use Rattle.state.specs.declared.Values.{Values}
use Rattle.state.specs.declared.State.{State}
use Rattle.state_layout.specs.IsState.{all_of, wait_is, entry_is, task_is, level_is, cells_are, motion_is, notes_are, values_are, state_is}

-- one of two tests was passed
one : (a b : Bool) → (a || b) ≡ true → (a ≡ true) ⊎ (b ≡ true)
one true b e = inl refl
one false b e = inr e

first : (a b : Bool) → a ≡ true → (a || b) ≡ true
first a b e = rw e

second : (a b : Bool) → b ≡ true → (a || b) ≡ true
second true b e = refl
second false b e = e

-- ---- waits

judged_wait : (m time turns : ℕ) → wait_is m time turns ≡ true → GoodWait m time turns
judged_wait m time turns e =
    ⊎_elim
    (λ c.
    let r = both (eqb time 0) (eqb turns 0) c in
    subst (λ (x : ℕ). GoodWait m x turns) (sym (eqb-true time 0 r.0)) (subst (λ (y : ℕ). GoodWait m 0 y) (sym (eqb-true turns 0 r.1)) GoodWait.none))
    (λ c.
    let r = both (ltb 0 time) (leb time longest_wait && not (due m time turns)) c in
    let q = both (leb time longest_wait) (not (due m time turns)) r.1 in
    GoodWait.pending (ltb-true 0 time r.0) (leb-true time longest_wait q.0) (not-true (due m time turns) q.1))
    (one (eqb time 0 && eqb turns 0) (ltb 0 time && (leb time longest_wait && not (due m time turns))) e)

wait_judged : (m time turns : ℕ) → GoodWait m time turns → wait_is m time turns ≡ true
wait_judged m time turns GoodWait.none = refl
wait_judged m time turns (GoodWait.pending a b e) = second (eqb time 0 && eqb turns 0) _ (rw (lt-ltb 0 time a, le-leb time longest_wait b, e))

-- ---- tasks

module _ (h : Header) (task : Task) where
  entry_judged : GoodTask h task → (i : ℕ) → entry_is h.count task.depth i (get_or task.stack i 0) ≡ true
  entry_judged g i =
      let x : ℕ = get_or task.stack i 0 in
      by i task.depth
      (λ c. first (ltb i task.depth && ltb x h.count) (leb task.depth i && eqb x 0)
      (rw (lt-ltb i task.depth c, lt-ltb x h.count (g.under i c))))
      (λ c. second (ltb i task.depth && ltb x h.count) (leb task.depth i && eqb x 0) (rw (le-leb task.depth i c, eq-eqb x 0 (g.above i c))))

  module _ (i : ℕ) (e : entry_is h.count task.depth i (get_or task.stack i 0) ≡ true) where
    ways : ((ltb i task.depth && ltb (get_or task.stack i 0) h.count) ≡ true) ⊎ ((leb task.depth i && eqb (get_or task.stack i 0) 0) ≡ true)
    ways = one (ltb i task.depth && ltb (get_or task.stack i 0) h.count) (leb task.depth i && eqb (get_or task.stack i 0) 0) e

    under_depth : i < task.depth → get_or task.stack i 0 < h.count
    under_depth l =
        ⊎_elim (λ c. ltb-true (get_or task.stack i 0) h.count (both (ltb i task.depth) _ c).1)
        (λ c. let z = leb-true task.depth i (both (leb task.depth i) _ c).0 in absurd (omega arith))
        ways

    above_depth : task.depth ≤ i → get_or task.stack i 0 ≡ 0
    above_depth l =
        ⊎_elim (λ c. let z = ltb-true i task.depth (both (ltb i task.depth) _ c).0 in absurd (omega arith))
        (λ c. eqb-true (get_or task.stack i 0) 0 (both (leb task.depth i) _ c).1)
        ways

  judged_task : length task.stack ≡ most_depth → task_is h task ≡ true → GoodTask h task
  judged_task long e =
      let r1 = both (leb task.status halted) _ e in
      let r2 = both (ltb task.block h.count) _ r1.1 in
      let r3 = both (ltb task.start h.count) _ r2.1 in
      let r4 = both (leb task.depth most_depth) _ r3.1 in
      let r5 = both (all_of (entry_is h.count task.depth) task.stack most_depth) _ r4.1 in
      let d = leb-true task.depth most_depth r4.0 in
      let entry = each_passes (λ (i : ℕ). entry_is h.count task.depth i (get_or task.stack i 0)) most_depth r5.0 in
      record {
        status = leb-true task.status halted r1.0;
        block = ltb-true task.block h.count r2.0;
        start = ltb-true task.start h.count r3.0;
        depth = d;
        long = long;
        under = λ i l. under_depth i (entry i (omega arith)) l;
        above = λ i l. by i most_depth (λ c. above_depth i (entry i c) l) (λ c. get_or-eq_default task.stack 0 {n = i} (omega arith));
        wait = judged_wait h.drive.model task.time task.turns r5.1;
      }

  task_judged : GoodTask h task → task_is h task ≡ true
  task_judged g =
      rw (
        le-leb task.status halted g.status,
        lt-ltb task.block h.count g.block,
        lt-ltb task.start h.count g.start,
        le-leb task.depth most_depth g.depth,
        all_pass (λ (i : ℕ). entry_is h.count task.depth i (get_or task.stack i 0)) most_depth (λ i lt. entry_judged g i),
        wait_judged h.drive.model task.time task.turns g.wait,
      )

-- ---- values

range_judged : (most n : ℕ) → InRange most n → up_to most n ≡ true
range_judged most n r = rw (lt-ltb 0 n r.positive, le-leb n most r.bounded)

judged_range : (most n : ℕ) → up_to most n ≡ true → InRange most n
judged_range most n e = let r = both (ltb 0 n) (leb n most) e in record { positive = ltb-true 0 n r.0; bounded = leb-true n most r.1 }

levels_judged : (l : List ℕ) → ((i : ℕ) → get_or l i 0 ≤ most_level) → all_of level_is l cells ≡ true
levels_judged l h = all_pass (λ (i : ℕ). level_is i (get_or l i 0)) cells (λ k lt. le-leb (get_or l k 0) most_level (h k))

judged_levels : (l : List ℕ) → length l ≡ cells → all_of level_is l cells ≡ true → (i : ℕ) → get_or l i 0 ≤ most_level
judged_levels l long e i =
    by i cells (λ c. leb-true (get_or l i 0) most_level (each_passes (λ (k : ℕ). level_is k (get_or l k 0)) cells e i c))
    (λ c. let z = get_or-eq_default l 0 {n = i} (omega arith) in omega arith)

cells_judged : (c : Cells) → GoodCells c → cells_are c ≡ true
cells_judged c g = rw (levels_judged c.flags g.flag, levels_judged c.outputs g.output)

motion_judged : (m : Motion) → GoodMotion m → motion_is m ≡ true
motion_judged m g =
    rw (
      range_judged most_speed m.axis.speed g.axis.speed,
      range_judged most_ramp m.axis.acceleration g.axis.acceleration,
      range_judged most_ramp m.axis.deceleration g.axis.deceleration,
      le-leb m.mark most_level g.mark,
    )

values_judged : (v : Values) → GoodValues v → values_are v ≡ true
values_judged v g =
    rw (
      cells_judged v.cells g.cells,
      motion_judged v.motion g.motion,
      le-leb v.notes.level most_level g.notes.level,
      le-leb v.notes.moved most_level g.notes.moved,
    )

-- ---- the state

-- what no test says of a state and the buffer's shape does: lengths, numbers that fit, BIAS's start
pub record Shaped (s : State) : Type 0 where
  pub variables : length s.values.cells.variables ≡ cells
  pub signed : (i : ℕ) → SFits w32 (get_or s.values.cells.variables i (pos 0))
  pub flags : length s.values.cells.flags ≡ cells
  pub outputs : length s.values.cells.outputs ≡ cells
  pub landings : length s.landings ≡ most_landings
  pub position : SFits w32 s.values.motion.axis.position
  pub three : length s.tasks ≡ task_count
  pub stack : (t : ℕ) → t < task_count → length (task_at s t).stack ≡ most_depth
  pub first : (task_at s bias).start ≡ s.header.start

judged_cells : (s : State) → Shaped s → cells_are s.values.cells ≡ true → GoodCells s.values.cells
judged_cells s x e =
    let c = s.values.cells in
    let r = both (all_of level_is c.flags cells) (all_of level_is c.outputs cells) e in
    record {
      variables = x.variables;
      signed = x.signed;
      flags = x.flags;
      flag = judged_levels c.flags x.flags r.0;
      outputs = x.outputs;
      output = judged_levels c.outputs x.outputs r.1;
    }

judged_motion : (m : Motion) → SFits w32 m.axis.position → motion_is m ≡ true → GoodMotion m
judged_motion m position e =
    let r1 = both (up_to most_speed m.axis.speed) _ e in
    let r2 = both (up_to most_ramp m.axis.acceleration) _ r1.1 in
    let r3 = both (up_to most_ramp m.axis.deceleration) (leb m.mark most_level) r2.1 in
    record {
      axis = record {
        position = position;
        speed = judged_range most_speed m.axis.speed r1.0;
        acceleration = judged_range most_ramp m.axis.acceleration r2.0;
        deceleration = judged_range most_ramp m.axis.deceleration r3.0;
      };
      mark = leb-true m.mark most_level r3.1;
    }

judged_values : (s : State) → Shaped s → values_are s.values ≡ true → GoodValues s.values
judged_values s x e =
    let v = s.values in
    let r1 = both (cells_are v.cells) _ e in
    let r2 = both (motion_is v.motion) (notes_are v.notes) r1.1 in
    let r3 = both (leb v.notes.level most_level) (leb v.notes.moved most_level) r2.1 in
    record {
      cells = judged_cells s x r1.0;
      motion = judged_motion v.motion x.position r2.0;
      notes = record { level = leb-true v.notes.level most_level r3.0; moved = leb-true v.notes.moved most_level r3.1 };
    }

pub good_judged : (s : State) → GoodState s → state_is s ≡ true
unfolding state_is
good_judged s g =
    rw (
      good_accepted s.header g.header,
      good_landings_accepted s.header s.landings g.landings,
      values_judged s.values g.values,
      task_judged s.header (task_at s bias) (g.task bias (omega arith)),
      task_judged s.header (task_at s plc) (g.task plc (omega arith)),
      task_judged s.header (task_at s mathematics) (g.task mathematics (omega arith)),
    )

pub judged_good : (s : State) → Shaped s → state_is s ≡ true → GoodState s
unfolding state_is
judged_good s x e =
    let r1 = both (accepts s.header) _ e in
    let k = both (accepts_landings s.header s.landings) _ r1.1 in
    let r2 = both (values_are s.values) _ k.1 in
    let g = accepted_good s.header r1.0 in
    let few = most_of_lem s.header.format in
    let most = g.landings in
    let r3 = both (task_is s.header (task_at s bias)) _ r2.1 in
    let r4 = both (task_is s.header (task_at s plc)) (task_is s.header (task_at s mathematics)) r3.1 in
    let task : (t : ℕ) → t < task_count → GoodTask s.header (task_at s t) = each r3.0 r4.0 r4.1 in
    record {
      header = g;
      landings = landings_accepted s.header s.landings x.landings (omega arith) k.0;
      values = judged_values s x r2.0;
      three = x.three;
      task = task;
      first = x.first;
    }
  where
    each : task_is s.header (task_at s bias) ≡ true → task_is s.header (task_at s plc) ≡ true → task_is s.header (task_at s mathematics) ≡ true → (t : ℕ)
        → t < task_count → GoodTask s.header (task_at s t)
    each a b c zero l = judged_task s.header (task_at s bias) (x.stack bias (omega arith)) a
    each a b c (suc zero) l = judged_task s.header (task_at s plc) (x.stack plc (omega arith)) b
    each a b c (suc (suc zero)) l = judged_task s.header (task_at s mathematics) (x.stack mathematics (omega arith)) c
    each a b c (suc (suc (suc t))) l = absurd (omega arith)

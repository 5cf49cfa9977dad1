-- Codes and flows: which command it was, from the flow that an outcome is in; and the open calls after it.
use Prim.Native.Nat.{ℕ, ◌+◌}
use mathlib.Core.Path.{◌≡◌, refl, sym, ap, ◌∙◌}
use mathlib.Core.Bool.{Bool, true, false, ◌&&◌, ◌||◌, not, cond, or-true}
use mathlib.Core.List.{List, [], ◌∷◌}
use native.Mathlib.Decide.{ℕ_discrete}
use lib.Dec.{eqb}
use borrow.Author.Tests.{eqb-true, eqb-false, eq-eqb, not-true}
use Rattle.limits.specs.Limits.{bias, plc, mathematics}
use Rattle.logic.proofs.Choice.{clash, both}
use Rattle.command_table.specs.Rows.{row_of}
use Rattle.command_table.specs.declared.FlowKind.{FlowKind}
use Rattle.command_table.specs.declared.FlowKind.TheVariants as kind
use Rattle.command_table.proofs.FlowKinds.{is, is_true}
use Rattle.command_operands.specs.declared.Command.{Command}
use Rattle.walk_flow.specs.Terms.{Terms}
use Rattle.walk_flow.specs.Flow.{flow_by, flow_of}
use Rattle.walk_flow.specs.Permission.{foreign}
use Rattle.walk_flow.specs.declared.Flow.{Flow}
use Rattle.walk_flow.specs.declared.Flow.TheVariants as flow
use Rattle.walk_flow.proofs.ForeignEnd.{foreign_exactly}
use Rattle.walk.specs.Walk.{starts_anew}
use Rattle.walk.proofs.Steps.Moves.{Flows, Flowing, flowing, starts_by, lands_by, start_f, land_f}
use Rattle.machine.specs.StepRule.{Calls, no_calls, with_calls, without_latest, counts}
use Rattle.machine.specs.Allows.{Allows}
use Rattle.machine.specs.declared.Outcome.TheVariants.{Start, End}

-- the open calls after a command of this flow
abbrev pub count_f : Flow → ℕ → ℕ → Calls → Calls
count_f (flow.Call a) t b calls = with_calls t (b ∷ calls t) calls
count_f flow.Return t b calls = with_calls t (without_latest (calls t)) calls
count_f (flow.Start u a) t b calls = with_calls u [] calls
count_f flow.Restart t b calls = with_calls t [] calls
count_f flow.Next t b calls = calls
count_f flow.Wait t b calls = calls
count_f (flow.Jump a) t b calls = calls
count_f (flow.Branch a) t b calls = calls
count_f flow.End t b calls = calls
count_f flow.ComputedJump t b calls = calls
count_f (flow.ComputedStart u) t b calls = with_calls u [] calls

abbrev end_f : Flow → Bool
end_f flow.End = true
end_f flow.Next = false
end_f flow.Wait = false
end_f (flow.Jump a) = false
end_f (flow.Branch a) = false
end_f (flow.Call a) = false
end_f flow.Return = false
end_f (flow.Start u a) = false
end_f flow.Restart = false
end_f flow.ComputedJump = false
end_f (flow.ComputedStart u) = false

-- by the kind of the flow
module _ (x word t b : ℕ) (calls : Calls) where
  count_by : FlowKind → Calls
  count_by k =
      cond (is k kind.Call) (with_calls t (b ∷ calls t) calls)
      (cond (is k kind.Return) (with_calls t (without_latest (calls t)) calls)
      (cond (is k kind.StartPlc) (with_calls plc [] calls)
      (cond (is k kind.StartBias) (with_calls bias [] calls)
      (cond (is k kind.StartMathematics) (with_calls mathematics [] calls)
      (cond (is k kind.ComputedStartBias) (with_calls bias [] calls)
      (cond (is k kind.Ending && eqb x 0) (with_calls t [] calls) calls))))))

  -- what one flow comes to, by both ways of counting
  record Counted (k : FlowKind) : Type 0 where
    count : count_by k ≡ count_f (flow_by k x word) t b calls
    ends : end_f (flow_by k x word) ≡ (is k kind.Ending && not (eqb x 0))

  ending_by : (m : Bool) → (cond m (with_calls t [] calls) calls ≡ count_f (cond m flow.Restart flow.End) t b calls)
      × (end_f (cond m flow.Restart flow.End) ≡ not m)
  ending_by true = (refl, refl)
  ending_by false = (refl, refl)

  counted : (k : FlowKind) → is k kind.Nothing ≡ false → Counted k
  unfolding count_by
  counted kind.Nothing e = clash e
  counted kind.Next e = record { count = refl; ends = refl }
  counted kind.Wait e = record { count = refl; ends = refl }
  counted kind.Jump e = record { count = refl; ends = refl }
  counted kind.Branch e = record { count = refl; ends = refl }
  counted kind.Call e = record { count = refl; ends = refl }
  counted kind.Return e = record { count = refl; ends = refl }
  counted kind.StartBias e = record { count = refl; ends = refl }
  counted kind.StartPlc e = record { count = refl; ends = refl }
  counted kind.StartMathematics e = record { count = refl; ends = refl }
  counted kind.ComputedJump e = record { count = refl; ends = refl }
  counted kind.ComputedStartBias e = record { count = refl; ends = refl }
  counted kind.Ending e = let r = ending_by (eqb x 0) in record { count = r.0; ends = r.1 }

-- a command whose code and flow go together
module _ (h : Terms) (c : Command) (f : Flows c.code (row_of c.code).flow) where
  pub counts_flow : (t b : ℕ) (calls : Calls) → counts c t b calls ≡ count_f (flow_of h c) t b calls
  unfolding counts flow_of count_by
  counts_flow t b calls =
      rw (f.calls, f.returns, f.begins_plc, f.begins_bias, f.begins_mathematics, f.computes_bias, f.ends)
      (counted c.x c.word t b calls (row_of c.code).flow f.some).count

  -- a 53 returns
  pub return_flow : c.code ≡ 0x53 → flow_of h c ≡ flow.Return
  unfolding flow_of
  return_flow e =
      ap (λ (k : FlowKind). flow_by k c.x c.word) (is_true (row_of c.code).flow kind.Return (sym f.returns ∙ eq-eqb c.code 0x53 e))

  -- a start of a task names it
  pub start_code : (ls : List ℕ) (u a : ℕ) → Allows ls (flow_of h c) (Start u a) → starts_anew c.code u ≡ true
  unfolding flow_of
  start_code ls u a m = rw (f.begins_bias, f.begins_plc, f.begins_mathematics, f.computes_bias) (begun (flow_of h c) m refl)
    where
      all : Flowing (row_of c.code).flow c.word (flow_of h c)
      all = flowing c.x c.word (row_of c.code).flow f.some

      begun : (g : Flow) → Allows ls g (Start u a) → flow_of h c ≡ g
          → (starts_by (row_of c.code).flow u || lands_by (row_of c.code).flow u) ≡ true
      begun _ Allows.start e = rw (all.start u ∙ ap (λ (q : Flow). start_f q u) e ∙ eq-eqb u u refl)
      begun _ (Allows.begin k) e = rw (all.land u ∙ ap (λ (q : Flow). land_f q u) e ∙ eq-eqb u u refl) (or-true (starts_by (row_of c.code).flow u))

  -- an end is a 51 of its own task's mode
  pub end_code : (ls : List ℕ) (t : ℕ) → foreign t c ≡ false → Allows ls (flow_of h c) End → (c.code ≡ 0x51) × (c.x ≡ t + 1)
  unfolding flow_of
  end_code ls t own m = (code, mode (ℕ_discrete c.x (t + 1)))
    where
      ends : (g : Flow) → Allows ls g End → end_f g ≡ true
      ends _ Allows.end = refl

      known : (is (row_of c.code).flow kind.Ending && not (eqb c.x 0)) ≡ true
      known = sym (counted c.x c.word 0 0 no_calls (row_of c.code).flow f.some).ends ∙ ends (flow_of h c) m

      code : c.code ≡ 0x51
      code = eqb-true c.code 0x51 (f.ends ∙ (both _ _ known).0)

      mode : Dec (c.x ≡ t + 1) → c.x ≡ t + 1
      mode (yes e) = e
      mode (no n) =
          clash (sym ((foreign_exactly t c).1
          (record {
            code = code;
            mode = eqb-false c.x 0
                (not-true (eqb c.x 0) (both (is (row_of c.code).flow kind.Ending) (not (eqb c.x 0)) known).1);
            other = n;
          })) ∙ own)

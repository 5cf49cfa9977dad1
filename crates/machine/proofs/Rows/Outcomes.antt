-- What an outcome that a flow allows leads to: the points that follow.
use Prim.Native.Nat.{ℕ, ◌+◌}
use mathlib.Core.Path.{◌≡◌, refl}
use mathlib.Core.Bool.{Bool, true, false, cond}
use mathlib.Core.Logic.{inl, inr}
use mathlib.Core.List.{List, [], ◌∷◌}
use lib.Dec.{eqb, leb}
use borrow.Author.Tests.{ne_eqb}
use Rattle.limits.specs.Limits.{most_depth}
use Rattle.walk_point.specs.PointFault.{point, too_deep, no_call}
use Rattle.walk_point.specs.declared.Point.{Point}
use Rattle.walk_flow.specs.declared.Flow.{Flow}
use Rattle.walk.specs.Graph.{In}
use Rattle.walk.specs.Successors.{each_at, leads_to}
use Rattle.walk.proofs.Steps.Moves.{each_in}
use Rattle.machine.specs.Allows.{Allows}
use Rattle.machine.specs.declared.Outcome.TheVariants.{GoOn, Jump, Call, Return, Start}

module _ (ls : List ℕ) (p : Point) where
  abbrev pub beyond : Point
  beyond = point p.task (p.block + 1) p.depth

  pub on_in : (f : Flow) → Allows ls f GoOn → In beyond (leads_to ls p f)
  on_in _ Allows.on = inl refl
  on_in _ Allows.over = inl refl
  on_in _ Allows.pass = inr (inl refl)

  pub jump_in : (f : Flow) (a : ℕ) → Allows ls f (Jump a) → In (point p.task a p.depth) (leads_to ls p f)
  jump_in _ a Allows.jump = inl refl
  jump_in _ a Allows.branch = inl refl
  jump_in _ a (Allows.land m) = each_in p.task p.depth ls a m

  pub call_in : (f : Flow) (a : ℕ) → Allows ls f (Call a) → In (point p.task a (p.depth + 1)) (leads_to ls p f)
  call_in _ a Allows.call = inl refl

  pub behind_in : (f : Flow) (a : ℕ) → Allows ls f (Call a) → In beyond (leads_to ls p f)
  behind_in _ a Allows.call = inr (inl refl)

  -- a call is judged by depth, and so is a return
  pub call_deep : (f : Flow) (a : ℕ) → Allows ls f (Call a) → too_deep f p.depth ≡ leb most_depth p.depth
  call_deep _ a Allows.call = refl

  pub return_deep : (f : Flow) → Allows ls f Return → no_call f p.depth ≡ eqb p.depth 0
  return_deep _ Allows.return = refl

  pub start_in : (f : Flow) (u a : ℕ) → Allows ls f (Start u a) → In (point u a 0) (leads_to ls p f)
  start_in _ u a Allows.start = first (eqb u p.task)
    where
      first : (t : Bool) → In (point u a 0) (cond t (point u a 0 ∷ []) (point u a 0 ∷ beyond ∷ []))
      first true = inl refl
      first false = inl refl
  start_in _ u a (Allows.begin m) = landed (eqb u p.task)
    where
      landed : (t : Bool) → In (point u a 0) (cond t (each_at u 0 ls) (beyond ∷ each_at u 0 ls))
      landed true = each_in u 0 ls a m
      landed false = inr (each_in u 0 ls a m)

  pub start_on : (f : Flow) (u a : ℕ) → Allows ls f (Start u a) → (u ≡ p.task → ⊥) → In beyond (leads_to ls p f)
  start_on _ u a Allows.start n = rw (ne_eqb u p.task n) (inr (inl refl))
  start_on _ u a (Allows.begin m) n = rw (ne_eqb u p.task n) (inl refl)

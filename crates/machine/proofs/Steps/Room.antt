-- Where 17 lets a command pass there is room for its call, and something for its return to go to.
use Prim.Native.Nat.{ℕ, ◌≤◌}
use mathlib.Core.Path.{◌≡◌, sym, ◌∙◌}
use mathlib.Core.Bool.{true}
use mathlib.Core.List.{List}
use native.Mathlib.Omega.{arith}
use lib.Dec.{eqb}
use borrow.Author.Tests.{eqb-true, eqb-false, leb-false}
use Rattle.limits.specs.Limits.{most_depth}
use Rattle.logic.proofs.Choice.{both}
use Rattle.walk_flow.specs.Terms.{Terms}
use Rattle.command_operands.specs.declared.Command.{Command}
use Rattle.walk_flow.specs.Flow.{flow_of}
use Rattle.walk_fault.specs.Fault.{fault_number}
use Rattle.walk.specs.Blocks.{command_at, fault_at, block_number}
use Rattle.walk.proofs.Points.Within.{Passes, passes}
use Rattle.state.specs.declared.Task.{Task}
use Rattle.state.specs.declared.Values.{Values}
use Rattle.machine.specs.DepthAllows.{DepthAllows}
use Rattle.machine.specs.declared.Context.{Context}
use Rattle.machine.specs.Effect.{effect_of}
use Rattle.machine.specs.Engine.{point_of, block_fits}
use Rattle.machine.specs.Allows.{Allows}
use Rattle.machine.specs.declared.Outcome.{Outcome}
use Rattle.machine.specs.declared.Outcome.TheVariants.{GoOn, Stay, Jump, Call, Return, Start, Restart, End, Halt}
use Rattle.machine.proofs.Rows.EveryLaw.{every_law}
use Rattle.machine.proofs.Rows.Outcomes.{call_deep, return_deep}
use Rattle.machine.proofs.Steps.Together.{used_carried}
use Rattle.walk_fault.proofs.NoFault.{no_fault}

module _ (bs : List ℕ) (h : Terms) (t : ℕ) (task : Task) (pass : block_fits h bs t task ≡ true) where
  abbrev c : Command
  c = command_at bs task.block

  passed : Passes h c (point_of t task)
  unfolding fault_at
  passed =
      let d = both (eqb (block_number h bs task.block) 0) (eqb (fault_number (fault_at h bs (point_of t task))) 0) pass in
      passes h c (point_of t task) (no_fault (fault_at h bs (point_of t task)) (eqb-true _ 0 d.1))

  room : (ls : List ℕ) → task.depth ≤ most_depth → (o : Outcome) → Allows ls (flow_of h c) o → DepthAllows task.depth o
  room ls l (Call a) m = leb-false most_depth task.depth (sym (call_deep ls (point_of t task) (flow_of h c) a m) ∙ passed.shallow)
  room ls l Return m = let n = eqb-false task.depth 0 (sym (return_deep ls (point_of t task) (flow_of h c) m) ∙ passed.called) in (omega arith, l)
  room ls l GoOn m = tt
  room ls l (Stay time turns) m = tt
  room ls l (Jump a) m = tt
  room ls l (Start u a) m = tt
  room ls l Restart m = tt
  room ls l End m = tt
  room ls l (Halt q) m = tt

  pub deep : task.depth ≤ most_depth → (inputs ls : List ℕ) (g : Context) (v : Values) → DepthAllows task.depth (effect_of inputs ls g c v).outcome
  unfolding flow_of
  deep l inputs ls g v = room ls l (effect_of inputs ls g c v).outcome (every_law inputs ls g c v (used_carried h c.code t passed.allowed)).outcome.flow

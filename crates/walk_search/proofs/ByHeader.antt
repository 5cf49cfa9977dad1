-- What no landing block decides: what is handed on from a pair, and what a command breaks at a point, are the same by the header alone.
use Prim.Native.Nat.{ℕ}
use mathlib.Core.Path.{◌≡◌, refl}
use mathlib.Core.List.{List}
use Rattle.walk_flow.specs.Terms.{Terms, by_header}
use Rattle.walk_flow.specs.Flow.{flow_of}
use Rattle.walk_flow.specs.Permission.{permitted}
use Rattle.walk_point.specs.PointFault.{fault_of}
use Rattle.walk_point.specs.declared.Point.{Point}
use Rattle.walk.specs.Blocks.{fault_at}
use Rattle.walk_graph.specs.Onward.{command_onward, onward_of}

module _ (terms : Terms) (bs : List ℕ) where
  pub onward_by_header : (task block s : ℕ) → onward_of (by_header terms.header) bs task block s ≡ onward_of terms bs task block s
  unfolding onward_of command_onward flow_of permitted
  onward_by_header task block s = refl

  pub fault_by_header : (p : Point) → fault_at (by_header terms.header) bs p ≡ fault_at terms bs p
  unfolding fault_at fault_of flow_of permitted
  fault_by_header p = refl

-- `least_bad` meets its contract: the number of a point fits.
use native.Mathlib.Omega.{arith}
use Rattle.walk_graph.proofs.Depths.{least_within}
use Rattle.walk_search.proofs.search.least_bad.Goals as goal

pub overflow_add-p : goal.overflow_add-p
overflow_add-p c = omega (arith, c.least_depth.ensures, least_within c.args.bad, c.requires)

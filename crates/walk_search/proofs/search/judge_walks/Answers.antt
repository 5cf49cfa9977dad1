-- `judge_walks` meets its contract: the marks of the image's pairs are no more than what 13 asks for.
use native.Mathlib.Omega.{arith}
use Rattle.walk_search.proofs.search.judge_walks.Goals as goal

pub slice_bounds-search-end : goal.slice_bounds-search-end
slice_bounds-search-end c = omega (arith, c.args.program.now.bounds.most, c.requires)

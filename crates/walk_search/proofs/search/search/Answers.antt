-- `search` meets its contract: the marks begin with the first pair alone, are walked to the end, and the least is told.
use mathlib.Core.Path.{◌∙◌}
use Rattle.walk.specs.Verdict.{walks_verdict}
use Rattle.walk_search.specs.Program.{terms_of}
use Rattle.walk_search.specs.Search.{found}
use Rattle.walk_search.proofs.Told.{below_is, told}
use Rattle.walk_search.proofs.search.search.Goals as goal

pub verdict_by-requires : goal.verdict_by-requires
unfolding found
verdict_by-requires c = rw c.walk-found.ensures.value (below_is _ _)

pub returns-clause-value : goal.returns-clause-value
unfolding walks_verdict found
returns-clause-value c = c.verdict_by.ensures ∙ rw c.walk-found.ensures.value (told (terms_of c.args.program.now) c.args.program.now.blocks.now _ _)

-- `walk` meets its contract: what holds all through a search holds at each turn, and less is left to be handed on.
use Rattle.walk_search.specs.Program.{terms_of}
use Rattle.walk_search.specs.Search.{pairs, handed_in, board}
use Rattle.walk_search.proofs.Counts.{left}
use Rattle.walk_search.proofs.Ends.{Running}
use Rattle.walk_search.proofs.search.walk.Given as goal

abbrev pub invariant-loop-found : goal.invariant-loop-found
invariant-loop-found l = Running (terms_of l.program) l.program.blocks.now (board l.marks l.landed l.found)

abbrev pub decreases-loop-found : goal.decreases-loop-found
decreases-loop-found l = left (pairs (terms_of l.program)) (handed_in l.marks)

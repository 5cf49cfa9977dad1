-- `touch_each` meets its contract: the touches that are left come to the same at each turn, and there is room for them.
use mathlib.Core.Path.{◌≡◌}
use lib.ListN.{drop}
use Rattle.walk_search.specs.Search.{listing, touched_each, RoomEach}
use Rattle.walk_search.proofs.search.touch_each.Given as goal

abbrev pub invariant-loop-block : goal.invariant-loop-block
invariant-loop-block l = record {
  room : RoomEach l.landings l.marks l.n l.t l.s;
  left : touched_each (drop l.block-index l.landings) l.t l.s (listing l.marks l.n) ≡ touched_each l.landings l.t l.s (listing l.initial.marks l.pending);
}

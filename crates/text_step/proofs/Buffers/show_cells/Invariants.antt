-- After k turns the first k cells are compared.
use Rattle.std.proofs.Common.{◌≡◌, ◌&&◌}
use Rattle.text_step.specs.Changes.{same_cells}
use Rattle.text_step.proofs.Buffers.show_cells.Given as goal

abbrev pub invariant-loop-k : goal.invariant-loop-k
invariant-loop-k g l = l.left ≡ (l.nothing && same_cells l.self.before.now l.self.after.now l.at l.width l.k)

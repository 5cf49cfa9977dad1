-- A cell more is compared.
use Rattle.std.proofs.Common.{true, refl, ◌+◌, ◌*◌, add-one}
use Rattle.logic.specs.Each.{each_below}
use Rattle.text_step.specs.Changes.{same, same_cells}
use Rattle.text_step.proofs.Shown.{is_same, then}
use Rattle.text_step.proofs.Buffers.show_cells.Goals as goal

pub loop-k-init : goal.loop-k-init
unfolding each_below
loop-k-init g c = is_same c.args.nothing true refl

pub loop-k-preserved : goal.loop-k-preserved
unfolding each_below
loop-k-preserved g c =
    let a = c.args in
    let l = c.loop-k in
    rw add-one (then a.nothing (same_cells a.self.now.before.now a.self.now.after.now a.at a.width l.k)
    (same a.self.now.before.now a.self.now.after.now (a.at + a.width * l.k) a.width) l.left l.invariant c.in_ok-left.ensures)

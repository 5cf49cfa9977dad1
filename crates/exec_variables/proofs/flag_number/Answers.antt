-- `flag_number` meets its contract: the flags from the last one down.
use Rattle.std.proofs.Common.{ℕ, ◌+◌, ◌*◌, pos, ap, ◌∙◌, arith, w32}
use Rattle.num_arith.specs.Wrap.{word}
use Rattle.exec_variables.proofs.Flags.{none, more}
use Rattle.exec_variables.proofs.flag_number.Goals as goal

pub loop-left-init : goal.loop-left-init
loop-left-init c = let a = c.args in rw c.from-left.ensures (none w32 a.flags.now a.first a.count)

pub loop-left-preserved : goal.loop-left-preserved
loop-left-preserved c =
    let a = c.args in
    let v = c.loop-left in
    c.with_flag-number.ensures
    ∙ ap (λ (l : ℕ). word w32 (pos (l + 2 * v.number))) (rw c.from.ensures at c.level_at.ensures)
    ∙ more w32 a.flags.now a.first a.count v.left v.number (omega arith) (omega arith) v.invariant

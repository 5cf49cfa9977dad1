-- `num_arith::div` meets its contract: std's quotient is cut to its low bits.
use mathlib.Core.Path.{ap, ◌∙◌}
use mir.Syntax.{w32}
use mir.Facts.{to_z-of_z}
use Rattle.std.specs.Prelude.{Some}
use Rattle.num_arith.specs.Ops.{quotient}
use Rattle.num_arith.proofs.Range.{quot_cut, got}
use Rattle.num_arith.proofs.Comparisons.{is_zero, no_zero}
use Rattle.num_arith.proofs.div.Goals as goal

pub returns-then-b-eq0 : goal.returns-then-b-eq0
unfolding quotient
returns-then-b-eq0 c = rw (is_zero w32 c.ranges.b c.if-b-eq0.true)

pub returns : goal.returns
unfolding quotient
returns c =
    let is = rw (to_z-of_z c.ranges.a, to_z-of_z c.ranges.b) at c.wrapping_div.ensures in
    rw (no_zero w32 c.ranges.b c.if-b-eq0.false) (ap Some (got w32 c.wrapping_div.type_inv is ∙ quot_cut w32 c.args.b c.ranges.a))

-- `num_arith::neg` meets its contract: std wraps the negation.
use mathlib.Core.Path.{ap, ◌∙◌}
use mir.Syntax.{w32}
use mir.Facts.{to_z-of_z}
use Rattle.std.specs.Int.{int_wrapping_neg}
use Rattle.std.proofs.lemmas.Int.{wrapping_neg_is}
use Rattle.num_arith.proofs.Cut.{is_wrap}
use Rattle.num_arith.proofs.Range.{got}
use Rattle.num_arith.proofs.neg.Goals as goal

pub returns : goal.returns
returns c =
    got w32 c.wrapping_neg.type_inv c.wrapping_neg.ensures
    ∙ ap (int_wrapping_neg w32) (to_z-of_z c.ranges.a) ∙ wrapping_neg_is w32 c.args.a c.ranges.a ∙ is_wrap w32 _

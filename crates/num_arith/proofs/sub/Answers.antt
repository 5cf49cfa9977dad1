-- `num_arith::sub` meets its contract: std wraps the difference.
use mathlib.Core.Path.{◌∙◌}
use mir.Syntax.{w32}
use Rattle.std.proofs.lemmas.Int.{wrapping_sub_is}
use Rattle.num_arith.proofs.Cut.{is_wrap}
use Rattle.num_arith.proofs.sub.Goals as goal

pub returns : goal.returns
returns c = wrapping_sub_is w32 c.args.a c.args.b c.ranges.a c.ranges.b ∙ is_wrap w32 _

-- `num_arith::add` meets its contract: std wraps the sum.
use mathlib.Core.Path.{◌∙◌}
use mir.Syntax.{w32}
use Rattle.std.proofs.lemmas.Int.{wrapping_add_is}
use Rattle.num_arith.proofs.Cut.{is_wrap}
use Rattle.num_arith.proofs.add.Goals as goal

pub returns : goal.returns
returns c = wrapping_add_is w32 c.args.a c.args.b c.ranges.a c.ranges.b ∙ is_wrap w32 _

-- `num_arith::mul` meets its contract: std wraps the product.
use mathlib.Core.Path.{◌∙◌}
use mir.Syntax.{w32}
use Rattle.std.proofs.lemmas.Int.{wrapping_mul_is}
use Rattle.num_arith.proofs.Cut.{is_wrap}
use Rattle.num_arith.proofs.mul.Goals as goal

pub returns : goal.returns
returns c = wrapping_mul_is w32 c.args.a c.args.b c.ranges.a c.ranges.b ∙ is_wrap w32 _

-- `num_arith::pattern` meets its contract: a number that fits has its own bits.
use mathlib.Core.Path.{sym, ap, ◌∙◌}
use mir.Syntax.{w32}
use mir.Val.{of_z}
use mir.Facts.{to_z-of_z}
use Rattle.num_arith.proofs.Cut.{word_same}
use Rattle.num_arith.proofs.pattern.Goals as goal

pub returns : goal.returns
returns c = c.cast_unsigned.ensures ∙ ap (of_z w32) (to_z-of_z c.ranges.a) ∙ sym (word_same w32 _ c.ranges.a)

-- The verdict is computed of each image.
use Rattle.std.proofs.Common.{refl, ◌∙◌}
use Rattle.logic.proofs.Lists.{◌◂◌}
use Rattle.vectors.proofs.Blocks.{known}
use Rattle.vectors.proofs.block_rows.Goals as goal

pub returns : goal.returns
returns g c =
    (c.in_ok-block_row.ensures ◂ c.in_ok-block_row-2.ensures ◂ c.in_ok-block_row-3.ensures ◂ c.in_ok-block_row-4.ensures ◂
    c.in_ok-block_row-5.ensures ◂ c.in_ok-block_row-6.ensures ◂ refl) ∙ known

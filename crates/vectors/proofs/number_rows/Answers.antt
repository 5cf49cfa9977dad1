-- The definition of a number computes at each string of bytes.
use Rattle.std.proofs.Common.{refl}
use Rattle.image_number.specs.Number.{number_at, first_byte, second_byte}
use Rattle.logic.proofs.Lists.{◌◂◌}
use Rattle.vectors.proofs.number_rows.Goals as goal

pub returns : goal.returns
unfolding number_at first_byte second_byte
returns g c =
    c.in_ok-number_row.ensures ◂ c.in_ok-number_row-2.ensures ◂ c.in_ok-number_row-3.ensures ◂ c.in_ok-number_row-4.ensures ◂
    c.in_ok-number_row-5.ensures ◂ c.in_ok-number_row-6.ensures ◂ c.in_ok-number_row-7.ensures ◂ c.in_ok-number_row-8.ensures ◂
    c.in_ok-number_row-9.ensures ◂ c.in_ok-number_row-10.ensures ◂ refl

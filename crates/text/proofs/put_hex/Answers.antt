-- The high digit, then the low one.
use Rattle.text.specs.Text.{hex_of}
use Rattle.text.proofs.put_hex.Goals as goal

pub returns : goal.returns
unfolding hex_of
returns c = rw (c.hex_digit-2.ensures, c.hex_digit.ensures) at c.put.ensures

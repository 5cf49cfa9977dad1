-- `num_arith::compare` meets its contract: a test of two numbers is the test of their bits.
use mir.Syntax.{w32}
use Rattle.num_arith.specs.Ops.{holds}
use Rattle.num_arith.proofs.Comparisons.{same_bits}
use Rattle.num_arith.proofs.compare.Goals as goal

pub returns-in-2 : goal.returns-in-2
unfolding holds
returns-in-2 c = rw (same_bits w32 _ _ c.ranges.a c.ranges.b, c.in-2.is)

pub returns-in-5 : goal.returns-in-5
unfolding holds
returns-in-5 c = rw (same_bits w32 _ _ c.ranges.a c.ranges.b, c.in-5.is)

-- `with_flag` meets its contract: twice a number and one more, modulo 2 ^ 32, by two sums that wrap.
use Rattle.std.proofs.Common.{rules}
use Rattle.num_arith.specs.Wrap.{word}
use Rattle.exec_variables.proofs.with_flag.Goals as goal

pub returns : goal.returns
unfolding word
returns c = search rules

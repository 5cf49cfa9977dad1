-- `flags_as_number` meets its contract: the number that the low 32 bits stand for.
use Rattle.std.proofs.Common.{rules}
use Rattle.num_arith.specs.Wrap.{wrap}
use Rattle.exec_variables.proofs.flags_as_number.Goals as goal

pub returns : goal.returns
unfolding wrap
returns c = search rules

-- `div_value` meets its contract.
use Rattle.std.proofs.Common.{refl, w32}
use Rattle.num_arith.proofs.Range.{got}
use Rattle.exec_variables.proofs.div_value.Goals as goal

pub content-requires : goal.content-requires
content-requires c = tt

pub div-requires : goal.div-requires
div-requires c = tt

pub divide-requires : goal.divide-requires
divide-requires c = tt

pub returns : goal.returns
returns c = rw (
  c.divide.ensures,
  c.div.ensures,
  got w32 {x = c.args.c.value} c.struct_told-1.given.1.1.1.1.1.0.1 refl,
  got w32 c.content.type_inv c.content.ensures,
)

-- `flag_number` meets its contract: the flags from the last one down.
use Rattle.std.proofs.Common.{◌≡◌, ◌+◌, ◌-◌, pos, w32}
use Rattle.num_arith.specs.Wrap.{word}
use Rattle.machine.specs.Effect.{flag_number}
use Rattle.exec_variables.proofs.flag_number.Given as goal

abbrev pub invariant-loop-left : goal.invariant-loop-left
invariant-loop-left l = l.number ≡ word w32 (pos (flag_number l.flags (l.first + l.left) (l.count - l.left)))

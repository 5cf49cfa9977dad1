-- So many drives are passed.
use Rattle.std.proofs.Common.{◌≡◌, ◌+◌, ◌*◌}
use Rattle.vectors.proofs.pin_rows.Given as goal

abbrev pub invariant-loop-model : goal.invariant-loop-model
invariant-loop-model g l = l.n ≡ 9 * l.model

abbrev pub invariant-loop-b : goal.invariant-loop-b
invariant-loop-b g l = l.n ≡ 9 * l.model + 3 * l.b

abbrev pub invariant-loop-c : goal.invariant-loop-c
invariant-loop-c g l = l.n ≡ 9 * l.model + 3 * l.b + l.c

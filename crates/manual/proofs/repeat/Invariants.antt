-- After i turns i steps were made.
use Rattle.std.proofs.Common.{◌≡◌, length}
use Rattle.limits.specs.Limits.{state_length}
use Rattle.manual.specs.Run.{given, repeated}
use Rattle.manual.proofs.repeat.Given as goal

abbrev pub invariant-loop-i : goal.invariant-loop-i
invariant-loop-i g l = record {
  long : length l.state ≡ state_length;
  ran : l.state ≡ repeated l.image (given l.inputs) l._i l.fn.state;
}

-- After k turns k records were carried out, and the rest of the steps is left.
use Rattle.std.proofs.Common.{◌≡◌, ◌*◌, ◌≤◌, length, drop}
use Rattle.std.specs.Slice.Iter.{chunks_exact_size, chunks_exact_rest}
use Rattle.limits.specs.Limits.{state_length}
use Rattle.manual.specs.Run.{record_length, after}
use Rattle.manual.proofs.run_records.Given as goal

abbrev pub invariant-loop-entry : goal.invariant-loop-entry
invariant-loop-entry g l = record {
  long : length l.state ≡ state_length;
  size : chunks_exact_size l.entry-iterator ≡ record_length;
  rest : chunks_exact_rest l.entry-iterator ≡ drop (record_length * length l.yielded) l.steps;
  within : record_length * length l.yielded ≤ length l.steps;
  ran : l.state ≡ after l.image l.steps (length l.yielded) l.fn.state;
}

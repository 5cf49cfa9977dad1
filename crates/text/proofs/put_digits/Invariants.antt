-- The digits that are left to put, and those that stand at the end, are the number's.
use Rattle.std.proofs.Common.{◌≡◌, ◌<◌, ◌≤◌, ◌^◌, ◌++◌, length, drop}
use Rattle.text.specs.Text.{decimal_of}
use Rattle.text.proofs.put_digits.Given as goal

abbrev pub invariant-loop-rest : goal.invariant-loop-rest
invariant-loop-rest l = record {
  same_length : length l.digits ≡ 20;
  room : (0 < l.at) × (l.at ≤ 20);
  few : l.rest < 10 ^ l.at;
  holds : decimal_of l.v ≡ decimal_of l.rest ++ drop l.at l.digits;
}

abbrev pub decreases-loop-rest : goal.decreases-loop-rest
decreases-loop-rest l = l.rest

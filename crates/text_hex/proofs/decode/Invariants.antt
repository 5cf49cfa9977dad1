-- The first i bytes of the line stand at the front, and the rest is as it was.
use Rattle.std.proofs.Common.{◌≡◌, ◌++◌, length, drop}
use Rattle.text_hex.specs.Hex.{hex_bytes}
use Rattle.text_hex.proofs.decode.Given as goal

abbrev pub invariant-loop-i : goal.invariant-loop-i
invariant-loop-i l = record {
  same_length : length l.out ≡ length l.fn.out;
  holds : l.out ≡ hex_bytes l.line l.i ++ drop l.i l.fn.out;
}

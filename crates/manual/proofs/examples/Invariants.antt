-- n is the number of lines that end before i, and the next begins at or before i.
use Rattle.std.proofs.Common.{◌≡◌, ◌≤◌}
use Rattle.text_hex.specs.Lines.{lines_of}
use Rattle.manual.proofs.examples.Given as goal

abbrev pub invariant-loop-i : goal.invariant-loop-i
invariant-loop-i g l = record {
  begins : l.from ≤ l.i;
  few : l.n ≤ l.i;
  counted : l.n ≡ lines_of l.text l.i;
}

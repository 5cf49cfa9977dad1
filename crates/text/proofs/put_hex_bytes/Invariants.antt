-- The digits of the bytes passed stand behind the text.
use Rattle.text.specs.Text.{hex_first}
use Rattle.text.specs.Put.{Put}
use Rattle.text.proofs.put_hex_bytes.Given as goal

abbrev pub invariant-loop-byte : goal.invariant-loop-byte
invariant-loop-byte l = Put l.initial.out l.initial.end (hex_first l.bytes l.byte-index) l.end l.out

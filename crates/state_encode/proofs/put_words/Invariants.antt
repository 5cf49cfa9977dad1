-- `state_encode::put_words` meets its contract: after i turns the bytes of i blocks are put.
use Prim.Native.Nat.{ℕ}
use mathlib.Core.Path.{◌≡◌}
use lib.ListN.{get_or}
use Rattle.num_le.specs.LittleEndian.{le_bytes}
use Rattle.state_bytes.specs.Bytes.{puts, concatenated}
use Rattle.state_encode.proofs.put_words.Given as goal

abbrev pub invariant-loop-i : goal.invariant-loop-i
invariant-loop-i l = l.b ≡ puts l.initial.b l.at (concatenated l.i (λ (j : ℕ). le_bytes 2 (get_or l.words j 0)))

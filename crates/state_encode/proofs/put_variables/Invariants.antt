-- `state_encode::put_variables` meets its contract: after k turns the bytes of k variables are put.
use Prim.Native.Nat.{ℕ}
use mathlib.Core.Path.{◌≡◌}
use lib.ListN.{get_or}
use lib.IntN.{pos}
use Rattle.state_bytes.specs.Bytes.{puts, concatenated, signed_bytes}
use Rattle.state_encode.proofs.put_variables.Given as goal

abbrev pub invariant-loop-k : goal.invariant-loop-k
invariant-loop-k l = l.b ≡ puts l.initial.b l.at (concatenated l.k (λ (j : ℕ). signed_bytes (get_or l.variables j (pos 0))))

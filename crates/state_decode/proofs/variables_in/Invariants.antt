-- `state_decode::variables_in` meets its contract: a table filled from the front.
use Prim.Native.Nat.{ℕ, ◌+◌, ◌*◌}
use mathlib.Core.Path.{◌≡◌}
use lib.ListN.{length, take}
use Rattle.limits.specs.Limits.{cells}
use Rattle.state_bytes.specs.Bytes.{table, signed_at}
use Rattle.state_layout.specs.Layout.{variables_at}
use Rattle.state_decode.proofs.variables_in.Given as goal

abbrev pub invariant-loop-k : goal.invariant-loop-k
invariant-loop-k l = (length l.r ≡ cells) × (take l.k l.r ≡ table l.k (λ (j : ℕ). signed_at l.b (variables_at + 4 * j)))

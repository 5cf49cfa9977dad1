-- `state_decode::stack_in` meets its contract: a table filled from the front.
use Prim.Native.Nat.{ℕ, ◌+◌, ◌*◌}
use mathlib.Core.Path.{◌≡◌}
use lib.ListN.{length, take}
use Rattle.limits.specs.Limits.{most_depth}
use Rattle.state_bytes.specs.Bytes.{table, le_number_at}
use Rattle.state_decode.proofs.stack_in.Given as goal

abbrev pub invariant-loop-i : goal.invariant-loop-i
invariant-loop-i l = (length l.r ≡ most_depth) × (take l.i l.r ≡ table l.i (λ (j : ℕ). le_number_at 2 l.b (l.at + 2 * j)))

-- `landings_in` meets its contract: after k turns the first k entries are read, and those behind them are still 0, as they are in the buffer.
use Prim.Native.Nat.{ℕ, ◌+◌, ◌*◌, ◌<◌, ◌≤◌}
use mathlib.Core.Path.{◌≡◌}
use mathlib.Core.List.{List}
use lib.ListN.{length, get_or}
use Rattle.limits.specs.Limits.{most_landings}
use Rattle.state_bytes.specs.Bytes.{le_number_at}
use Rattle.state_layout.specs.Layout.{landings_at}
use Rattle.state_decode.proofs.landings_in.Given as goal

-- entry k of the list in a buffer
abbrev pub entry : List ℕ → ℕ → ℕ
entry b j = le_number_at 2 b (landings_at + 2 * j)

-- the first k entries of r are those of the buffer, and the others are 0
pub record Read (b r : List ℕ) (k : ℕ) : Type 0 where
  pub long : length r ≡ most_landings
  pub front : (j : ℕ) → j < k → entry b j ≡ get_or r j 0
  pub rest : (j : ℕ) → k ≤ j → get_or r j 0 ≡ 0

abbrev pub invariant-loop-k : goal.invariant-loop-k
invariant-loop-k l = Read l.b l.r l.k

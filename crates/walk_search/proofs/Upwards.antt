-- The blocks judged upwards: each by itself, and behind them the walks.
use Rattle.std.specs.Prelude.{Ok, Err}
use Prim.Native.Nat.{ℕ, zero, suc, ◌+◌, ◌-◌, ◌<◌}
use mathlib.Core.Path.{◌≡◌, refl}
use mathlib.Core.List.{List}
use native.Mathlib.Omega.{arith}
use Rattle.command_judge.specs.BlockFault.{BlockResult, block_fault}
use Rattle.image_header.specs.declared.Header.{Header}
use Rattle.walk_flow.specs.Terms.{Terms}
use Rattle.walk.specs.Blocks.{block_at}
use Rattle.walk.specs.Verdict.{refused_by, walks_verdict, blocks_verdict}
use Rattle.walk.specs.declared.Refusal.TheVariants.{Block}
use Rattle.walk_search.specs.Search.{each_verdict}

-- one block more
pub each_next : (h : Header) (bs : List ℕ) (b n : ℕ) → b < n
    → each_verdict h bs b (n - b) ≡ refused_by (λ f. Block f b) (block_fault h (block_at bs b)) (each_verdict h bs (b + 1) (n - (b + 1)))
unfolding each_verdict
each_next h bs b n l = let e : n - b ≡ suc (n - (b + 1)) = omega arith in rw e refl

pub then_walks : (h : Terms) (bs : List ℕ) (b n : ℕ) → blocks_verdict h bs b n ≡ refused_by (λ r. r) (each_verdict h.header bs b n) (walks_verdict h bs)
unfolding blocks_verdict each_verdict
then_walks h bs b zero = refl
then_walks h bs b (suc n) = go (block_fault h.header (block_at bs b)) (then_walks h bs (b + 1) n)
  where
    go : (r : BlockResult) → blocks_verdict h bs (b + 1) n ≡ refused_by (λ r. r) (each_verdict h.header bs (b + 1) n) (walks_verdict h bs)
        → refused_by (λ f. Block f b) r (blocks_verdict h bs (b + 1) n)
        ≡ refused_by (λ r. r) (refused_by (λ f. Block f b) r (each_verdict h.header bs (b + 1) n)) (walks_verdict h bs)
    go (Ok _) e = e
    go (Err f) e = refl

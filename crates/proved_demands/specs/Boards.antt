-- The first block of an image that is refused by itself (5 to 8 or 23), in a load that comes to its blocks; of which the laws of change request 3 speak
-- (proofs/Boards.antt).
use Rattle.std.specs.Prelude.{ℕ, ◌<◌, ◌≤◌, ◌≡◌, true, List, length}
use Rattle.limits.specs.Limits.{marks_length, state_length}
use Rattle.image_result.specs.ImageResult.{done}
use Rattle.image_header.specs.Scan.{header_of, blocks_of}
use Rattle.command_judge.specs.BlockFault.{BlockResult}
use Rattle.walk_flow.specs.Terms.{terms_of}
use Rattle.walk.specs.Blocks.{block_fault_at}
use Rattle.walk.specs.IsVerdict.{BlockPasses}

pub record FirstFault (image : List ℕ) (n : ℕ) (b : List ℕ) (k : ℕ) (f : BlockResult) : Type 0 where
  -- 13, 16, 1 to 4 and 21 let the load pass
  pub marks : marks_length ≤ n
  pub buffer : length b ≡ state_length
  pub header : done (header_of image).result ≡ true
  -- this is wrong with block k, and the blocks before it pass
  pub block : k < (header_of image).header.count
  pub before : (a : ℕ) → a < k → BlockPasses (terms_of image) (blocks_of image) a
  pub fault : block_fault_at (terms_of image) (blocks_of image) k ≡ f

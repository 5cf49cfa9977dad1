-- What a verdict says of the walks of an image whose lengths, header and blocks are well formed (document 01, "Refused because of the input"; a
-- 51 that ends another task by docs/DECISIONS.md, R2).
use Rattle.std.specs.Prelude.{ℕ, ◌<◌, ◌≤◌, ◌≡◌, true, false, List, Ok, Err}
use Rattle.limits.specs.Limits.{marks_length}
use Rattle.image_result.specs.ImageResult.{done}
use Rattle.image_header.specs.Scan.{header_of, blocks_of}
use Rattle.walk_flow.specs.Terms.{Terms, terms_of}
use Rattle.walk_point.specs.declared.Point.{Point}
use Rattle.image_result.specs.declared.ImageFault.{ImageFault}
use Rattle.command_judge.specs.declared.BlockFault.{BlockFault}
use Rattle.walk_fault.specs.Fault.{is_foreign, is_bad}
use Rattle.walk_fault.specs.declared.Fault.{Fault}
use Rattle.walk.specs.Blocks.{block_fault_at, block_number, fault_at}
use Rattle.walk.specs.Walk.{Reaches}
use Rattle.walk.specs.Index.{before}
use Rattle.walk.specs.Verdict.{Verdict}
use Rattle.walk.specs.declared.Refusal.TheVariants as verdict

-- some walk reaches a 51 of another task's mode there
abbrev pub ForeignAt : Terms → List ℕ → Point → Type 0
ForeignAt terms bs p = Reaches terms bs p × (is_foreign (fault_at terms bs p) ≡ true)

-- some walk reaches a point there that is bad by 9 to 12
abbrev pub BadAt : Terms → List ℕ → Point → Type 0
BadAt terms bs p = Reaches terms bs p × (is_bad (fault_at terms bs p) ≡ true)

-- no walk reaches a foreign 51
abbrev pub NoForeign : Terms → List ℕ → Type 0
NoForeign terms bs = (p : Point) → ForeignAt terms bs p → ⊥

pub data IsWalksVerdict (terms : Terms) (bs : List ℕ) : Verdict → Type 0 where
  -- accepted: no walk reaches anything wrong
  accepted : NoForeign terms bs → ((p : Point) → BadAt terms bs p → ⊥) → IsWalksVerdict terms bs (Ok tt)
  -- 7: a walk reaches a foreign 51 at this block, and none at a block before it
  foreign : (p : Point) → ForeignAt terms bs p → ((q : Point) → ForeignAt terms bs q → p.block ≤ q.block)
      → IsWalksVerdict terms bs (Err (verdict.Foreign p.block))
  -- 9 to 12: no walk reaches a foreign 51; one reaches this bad point, and none a bad point before it
  bad : NoForeign terms bs → (p : Point) → BadAt terms bs p → ((q : Point) → BadAt terms bs q → before q p ≡ false)
      → (f : Fault) → fault_at terms bs p ≡ Err f → IsWalksVerdict terms bs (Err (verdict.Bad f p))

-- ---- the verdict on an image with marks of n bytes

-- block b by itself passes 5 to 8 and 23
abbrev pub BlockPasses : Terms → List ℕ → ℕ → Type 0
BlockPasses terms bs b = block_number terms bs b ≡ 0

-- what a verdict says of an image: 13, then the header and the length, then the first block that is refused, then the walks
pub data IsVerdict (image : List ℕ) (n : ℕ) : Verdict → Type 0 where
  marks : n < marks_length → IsVerdict image n (Err (verdict.MarksShort n))
  header : marks_length ≤ n → (f : ImageFault) → (header_of image).result ≡ Err f → IsVerdict image n (Err (verdict.Image f))
  block : marks_length ≤ n → done (header_of image).result ≡ true → (b : ℕ) → b < (terms_of image).header.count
      → ((a : ℕ) → a < b → BlockPasses (terms_of image) (blocks_of image) a)
      → (f : BlockFault) → block_fault_at (terms_of image) (blocks_of image) b ≡ Err f → IsVerdict image n (Err (verdict.Block f b))
  walks : marks_length ≤ n → done (header_of image).result ≡ true
      → ((b : ℕ) → b < (terms_of image).header.count → BlockPasses (terms_of image) (blocks_of image) b)
      → (v : Verdict) → IsWalksVerdict (terms_of image) (blocks_of image) v → IsVerdict image n v

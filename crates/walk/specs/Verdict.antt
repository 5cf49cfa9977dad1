-- The verdict on an image with marks of some length, computed: 13, then 1 to 4 and 21, then 5 to 8 and 23 of the blocks, then the least foreign 51 (7), then
-- the least bad point (9 to 12). That it is what walks say is proved in proofs/Verdicts/OfWalks.antt.
use Rattle.std.specs.Prelude.{ℕ, zero, suc, ◌+◌, ◌*◌, Bool, cond, List, [], ◌∷◌, ltb, is_ok, Result, Ok, Err}
use Rattle.limits.specs.Limits.{bias, most_blocks, most_landings, marks_length}
use Rattle.image_result.specs.ImageResult.{result_number, result_place}
use Rattle.image_header.specs.Scan.{header_of, landings_of, blocks_of}
use Rattle.walk_flow.specs.Terms.{Terms, terms_in}
use Rattle.image_header.specs.Scan.{HeaderJudged}
use Rattle.command_judge.specs.BlockFault.{block_fault_number}
use Rattle.walk_fault.specs.Fault.{is_foreign, is_bad, fault_number}
use Rattle.walk_point.specs.PointFault.{point}
use Rattle.walk_fault.specs.declared.Fault.TheVariants.{Foreign}
use Rattle.walk.specs.Blocks.{block_fault_at, fault_at}
use Rattle.walk.specs.Index.{index_of, point_at}
use Rattle.walk.specs.Successors.{next_of}
use Rattle.walk.specs.Graph.{closure, least}
use Rattle.walk.specs.declared.Refusal.{Refusal}
use Rattle.walk.specs.declared.Refusal.TheVariants as verdict

-- what an image and marks come to
abbrev pub Verdict : Type 0
Verdict = Result (Unit {0}) Refusal

-- the refusal of one judgement, or else what comes after it
abbrev pub refused_by : {E : Type 0} → (E → Refusal) → Result (Unit {0}) E → Verdict → Verdict
refused_by told (Ok _) later = later
refused_by told (Err fault) later = Err (told fault)

-- ---- the walks

-- the first point's number
abbrev pub root_of : Terms → ℕ
root_of terms = index_of (point bias terms.header.start 0)

-- the most points that follow one: the next block, and every landing block
abbrev pub most_following : ℕ
most_following = most_landings + 1

-- a step for each point, one for each that may follow it, and one for the first
abbrev pub fuel : ℕ
fuel = (most_following + 1) * marks_length + 1

unfoldable pub reached : Terms → List ℕ → List ℕ
reached terms bs = closure (next_of terms bs) fuel (root_of terms ∷ []) []

unfoldable pub least_foreign : Terms → List ℕ → List ℕ → ℕ
least_foreign terms bs is = least (λ i. is_foreign (fault_at terms bs (point_at i))) (λ i. (point_at i).block) most_blocks is

unfoldable pub least_bad : Terms → List ℕ → List ℕ → ℕ
least_bad terms bs is = least (λ i. is_bad (fault_at terms bs (point_at i))) (λ i. i) marks_length is

-- by the least foreign block, or else the least bad point; a number past all blocks, or all points, is none
unfoldable pub verdict_by : Terms → List ℕ → ℕ → ℕ → Verdict
verdict_by terms bs foreign bad =
    cond (ltb foreign most_blocks) (Err (verdict.Foreign foreign))
    (cond (ltb bad marks_length) (refused_by (λ f. verdict.Bad f (point_at bad)) (fault_at terms bs (point_at bad)) (Ok tt)) (Ok tt))

unfoldable pub walks_verdict : Terms → List ℕ → Verdict
walks_verdict terms bs = verdict_by terms bs (least_foreign terms bs (reached terms bs)) (least_bad terms bs (reached terms bs))

-- ---- the blocks

-- n blocks judged upwards from block b, then the walks
unfoldable pub blocks_verdict : Terms → List ℕ → ℕ → ℕ → Verdict
blocks_verdict terms bs b zero = walks_verdict terms bs
blocks_verdict terms bs b (suc n) = refused_by (λ f. verdict.Block f b) (block_fault_at terms bs b) (blocks_verdict terms bs (b + 1) n)

-- ---- the image

unfoldable pub read_verdict : HeaderJudged → List ℕ → List ℕ → Verdict
read_verdict r landings bs = refused_by verdict.Image r.result (blocks_verdict (terms_in r landings) bs 0 r.header.count)

-- the verdict on an image, with marks of n bytes
unfoldable pub verdict_of : List ℕ → ℕ → Verdict
verdict_of image n = cond (ltb n marks_length) (Err (verdict.MarksShort n)) (read_verdict (header_of image) (landings_of image) (blocks_of image))

-- ---- document 01's number and place

abbrev pub verdict_number : Verdict → ℕ
verdict_number (Ok _) = 0
verdict_number (Err (verdict.MarksShort n)) = 13
verdict_number (Err (verdict.Image o)) = result_number (Err o)
verdict_number (Err (verdict.Block f b)) = block_fault_number (Err f)
verdict_number (Err (verdict.Foreign b)) = fault_number (Err Foreign)
verdict_number (Err (verdict.Bad f p)) = fault_number (Err f)

-- the byte, length or block
abbrev pub verdict_place : Verdict → ℕ
verdict_place (Ok _) = 0
verdict_place (Err (verdict.MarksShort n)) = n
verdict_place (Err (verdict.Image o)) = result_place (Err o)
verdict_place (Err (verdict.Block f b)) = b
verdict_place (Err (verdict.Foreign b)) = b
verdict_place (Err (verdict.Bad f p)) = p.block

abbrev pub verdict_task : Verdict → ℕ
verdict_task (Ok _) = 0
verdict_task (Err (verdict.MarksShort n)) = 0
verdict_task (Err (verdict.Image o)) = 0
verdict_task (Err (verdict.Block f b)) = 0
verdict_task (Err (verdict.Foreign b)) = 0
verdict_task (Err (verdict.Bad f p)) = p.task

abbrev pub verdict_depth : Verdict → ℕ
verdict_depth (Ok _) = 0
verdict_depth (Err (verdict.MarksShort n)) = 0
verdict_depth (Err (verdict.Image o)) = 0
verdict_depth (Err (verdict.Block f b)) = 0
verdict_depth (Err (verdict.Foreign b)) = 0
verdict_depth (Err (verdict.Bad f p)) = p.depth

abbrev pub is_accepted : Verdict → Bool
is_accepted v = is_ok v

-- the blocks that are handed back: none of an image that is refused by any number
unfoldable pub accepted_blocks : List ℕ → ℕ → List ℕ
accepted_blocks image n = cond (is_accepted (verdict_of image n)) (blocks_of image) []

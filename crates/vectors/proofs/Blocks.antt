-- How many bytes the loader hands back of the images of `block_rows`, computed by the verdict's fast twin (crates/walk/proofs/Verdicts/Fast.antt).
use mathlib.Core.Path.{◌≡◌, refl, sym, ap, ◌∙◌}
use mathlib.Core.Bool.{cond}
use mathlib.Core.List.{List, [], ◌∷◌, map}
use Prim.Native.Nat.{ℕ}
use lib.ListN.{length}
use Rattle.logic.specs.Each.{each_below}
use Rattle.limits.specs.Limits.{marks_length}
use Rattle.drive.specs.Types as types
use Rattle.drive_pins.specs.Homes as homes
use Rattle.drive.specs.Pins as pins
use Rattle.image_number.specs.Number as number
use Rattle.image_header.specs.Rows as header
use Rattle.image_header.specs.Scan as scan
use Rattle.command_table.specs.Rows as rows
use Rattle.command_operands.specs.Operands as operands
use Rattle.command_judge.specs.BlockFault as judged
use Rattle.walk_flow.specs.Flow as flow
use Rattle.walk_flow.specs.Permission as tasks
use Rattle.walk_point.specs.PointFault as fault
use Rattle.walk.specs.Blocks as program
use Rattle.walk.specs.Index.{index_of, point_at}
use Rattle.walk.specs.Successors as successors
use Rattle.walk.specs.Graph.{least}
use Rattle.walk.specs.Verdict as verdict
use Rattle.walk.proofs.Verdicts.Fast.{closure_fast, walks_fast, blocks_fast, read_fast, verdict_fast, fast_is}
use Rattle.walk.specs.Verdict.{accepted_blocks, is_accepted}
use Rattle.walk.specs.Verdict.{Verdict}
use Rattle.logic.proofs.Lists.{◌◂◌}

abbrev images : List (List ℕ)
images =
    (1 ∷ 2 ∷ 0 ∷ 0 ∷ 0 ∷ 1 ∷ 85 ∷ 0 ∷ 0 ∷ 0 ∷ 0 ∷ 0 ∷ 0 ∷ 0 ∷ []) ∷
    (1 ∷ 2 ∷ 0 ∷ 0 ∷ 0 ∷ 2 ∷ 114 ∷ 12 ∷ 1 ∷ 0 ∷ 0 ∷ 0 ∷ 0 ∷ 0 ∷ 85 ∷ 0 ∷ 0 ∷ 0 ∷ 0 ∷ 0 ∷ 0 ∷ 0 ∷ []) ∷
    (1 ∷ 2 ∷ 0 ∷ 0 ∷ 0 ∷ 1 ∷ 85 ∷ 0 ∷ 0 ∷ 0 ∷ 0 ∷ 0 ∷ 0 ∷ []) ∷
    (1 ∷ 2 ∷ 0 ∷ 0 ∷ 1 ∷ 1 ∷ 85 ∷ 0 ∷ 0 ∷ 0 ∷ 0 ∷ 0 ∷ 0 ∷ 0 ∷ []) ∷
    (1 ∷ 2 ∷ 0 ∷ 0 ∷ 0 ∷ 2 ∷ 31 ∷ 1 ∷ 1 ∷ 250 ∷ 0 ∷ 0 ∷ 0 ∷ 0 ∷ 85 ∷ 0 ∷ 0 ∷ 0 ∷ 0 ∷ 0 ∷ 0 ∷ 0 ∷ []) ∷
    (1 ∷ 2 ∷ 0 ∷ 0 ∷ 0 ∷ 1 ∷ 80 ∷ 0 ∷ 0 ∷ 0 ∷ 0 ∷ 0 ∷ 0 ∷ 0 ∷ []) ∷
    []

-- the blocks by a verdict
abbrev by : List ℕ → Verdict → List ℕ
by image v = cond (is_accepted v) (scan.blocks_of image) []

abbrev quick : List ℕ → ℕ
quick image = length (by image (verdict_fast image marks_length))

abbrev handed : List ℕ → ℕ
handed image = length (accepted_blocks image marks_length)

quick_is : (is : List (List ℕ)) → map handed is ≡ map quick is
unfolding accepted_blocks
quick_is [] = refl
quick_is (i ∷ is) = ap (λ (v : Verdict). length (by i v)) (sym (fast_is i marks_length)) ◂ quick_is is

computed : map quick images ≡ 8 ∷ 16 ∷ 0 ∷ 0 ∷ 0 ∷ 0 ∷ []
unfolding types.takes homes.outputs_written homes.home_in homes.home_of pins.on_board pins.presence pins.pin_of
    number.number_bytes number.second_byte number.first_byte number.number_at
    each_below header.stands header.header_checked header.checked scan.stands_at scan.judged
    scan.taken scan.more scan.scan scan.first_refusal scan.length_result scan.read_with scan.closed scan.header_of scan.landings_of scan.blocks_of
    rows.rows rows.row_in rows.row_of
    operands.operands operands.all_zero operands.unused_zero
    judged.operand_fault judged.command_fault judged.row_fault judged.block_fault
    flow.flow_of
    tasks.foreign tasks.permitted fault.flow_fault fault.fault_of
    program.command_at program.fault_at
    index_of point_at
    successors.flow_at successors.successors successors.indices successors.next_of
    least
    verdict.least_foreign verdict.least_bad verdict.verdict_by
    closure_fast walks_fast blocks_fast read_fast verdict_fast
computed = refl

pub known : map handed images ≡ 8 ∷ 16 ∷ 0 ∷ 0 ∷ 0 ∷ 0 ∷ []
known = quick_is images ∙ computed

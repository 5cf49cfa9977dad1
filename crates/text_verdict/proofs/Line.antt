-- The line of a verdict: how long it can be, and that it is document 01's for case B.
use mathlib.Core.Path.{◌≡◌, refl, sym, ap, ◌∙◌}
use mathlib.Core.List.{List, [], ◌∷◌}
use Prim.Native.Nat.{ℕ, ◌^◌, ◌<◌, ◌≤◌}
use native.Mathlib.Omega.{arith}
use lib.ListN.{length, take, length-append}
use Rattle.logic.specs.Each.{each_below}
use Rattle.limits.specs.Limits.{marks_length}
use Rattle.text.specs.Text.{digits_of, decimal_of}
use Rattle.text.proofs.Read.{few_digits}
use Rattle.drive.specs.Types as types
use Rattle.image_number.specs.Number as number
use Rattle.image_header.specs.Rows as header
use Rattle.image_header.specs.Scan as scan
use Rattle.command_table.specs.Rows as rows
use Rattle.command_operands.specs.Operands as operands
use Rattle.command_judge.specs.BlockFault as judged
use Rattle.walk_flow.specs.Flow as flow
use Rattle.walk_flow.specs.Permission as tasks
use Rattle.walk_point.specs.PointFault as fault
use Rattle.walk.specs.Blocks as program
use Rattle.walk.specs.Index.{index_of, point_at}
use Rattle.walk.specs.Successors as successors
use Rattle.walk.specs.Graph.{least}
use Rattle.walk.specs.Verdict as verdict
use Rattle.walk.proofs.Verdicts.Fast.{closure_fast, walks_fast, blocks_fast, read_fast, verdict_fast, fast_is}
use Rattle.walk.specs.Verdict.{verdict_of, verdict_number, verdict_place, verdict_task, verdict_depth}
use Rattle.walk.specs.Verdict.{Verdict}
use Rattle.text_verdict.specs.Line.{line_room, line_of, Holds}
use Rattle.text_verdict.specs.declared.LineBytes.{LineBytes}

-- numbers of 32, 64, 8 and 8 bits leave it within its room
pub line_length : (v : Verdict) → verdict_number v < 2 ^ 32 → verdict_place v < 2 ^ 64 → verdict_task v < 2 ^ 8 → verdict_depth v < 2 ^ 8
    → length (line_of v) ≤ line_room
unfolding line_of
line_length v n p t d =
    let number = few_digits 9 (verdict_number v) (omega arith) in
    let place = few_digits 19 (verdict_place v) (omega arith) in
    let task = few_digits 2 (verdict_task v) (omega arith) in
    let depth = few_digits 2 (verdict_depth v) (omega arith) in
    simp length-append (omega arith)

-- case B: 50 and seven 00
abbrev case_b : List ℕ
case_b = 1 ∷ 2 ∷ 0 ∷ 0 ∷ 0 ∷ 1 ∷ 80 ∷ 0 ∷ 0 ∷ 0 ∷ 0 ∷ 0 ∷ 0 ∷ 0 ∷ []

-- `refusal 12 place 0 task 0 depth 0` and a line end
abbrev documented : List ℕ
documented =
    114 ∷ 101 ∷ 102 ∷ 117 ∷ 115 ∷ 97 ∷ 108 ∷ 32 ∷ 49 ∷ 50
    ∷ 32 ∷ 112 ∷ 108 ∷ 97 ∷ 99 ∷ 101 ∷ 32 ∷ 48
    ∷ 32 ∷ 116 ∷ 97 ∷ 115 ∷ 107 ∷ 32 ∷ 48
    ∷ 32 ∷ 100 ∷ 101 ∷ 112 ∷ 116 ∷ 104 ∷ 32 ∷ 48 ∷ 10 ∷ []

-- by the verdict's fast twin (crates/walk/proofs/Verdicts/Fast.antt)
computed : line_of (verdict_fast case_b marks_length) ≡ documented
unfolding line_of decimal_of digits_of
    types.takes
    number.number_bytes number.second_byte number.first_byte number.number_at
    each_below header.stands header.header_checked header.checked scan.stands_at scan.judged
    scan.taken scan.more scan.scan scan.first_refusal scan.length_result scan.read_with scan.closed scan.header_of scan.landings_of scan.blocks_of
    rows.rows rows.row_in rows.row_of
    operands.operands operands.all_zero operands.unused_zero
    judged.operand_fault judged.command_fault judged.row_fault judged.block_fault
    flow.flow_of
    tasks.foreign tasks.permitted fault.flow_fault fault.fault_of
    program.command_at program.fault_at
    index_of point_at
    successors.flow_at successors.successors successors.indices successors.next_of
    least
    verdict.least_foreign verdict.least_bad verdict.verdict_by
    closure_fast walks_fast blocks_fast read_fast verdict_fast
computed = refl

pub case_B : line_of (verdict_of case_b marks_length) ≡ documented
case_B = ap line_of (sym (fast_is case_b marks_length)) ∙ computed

-- what a held line gives
pub line_bytes : (text : List ℕ) (l : LineBytes) → Holds text l → take l.length l.bytes ≡ text
line_bytes text l h = h.is

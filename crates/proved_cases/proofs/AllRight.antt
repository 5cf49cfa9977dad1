-- Asking every question of the table gives its answer: one computation over the whole table, by the verdict's fast twin
-- (crates/walk/proofs/Verdicts/Fast.antt).
use mathlib.Core.Path.{◌≡◌, refl, ap, sym, ◌∙◌}
use mathlib.Core.Logic.{inl, inr}
use mathlib.Core.List.{List, [], ◌∷◌, map, tail}
use lib.ListN.{get_or}
use Rattle.logic.specs.Each.{each_below}
use Rattle.limits.specs.Limits.{marks_length}
use Rattle.num_arith.specs.Wrap as wrap
use Rattle.num_arith.specs.Ops as ops
use Rattle.drive.specs.Types as types
use Rattle.drive_pins.specs.Homes as homes
use Rattle.drive.specs.Pins as pins
use Rattle.image_number.specs.Number as number
use Rattle.image_header.specs.Rows as header
use Rattle.image_header.specs.Scan as scan
use Rattle.image_writer.specs.Writer as writer
use Rattle.command_table.specs.Rows as rows
use Rattle.command_operands.specs.Operands as operands
use Rattle.command_judge.specs.BlockFault as judged
use Rattle.walk_flow.specs.Flow as flow
use Rattle.walk_flow.specs.Permission as tasks
use Rattle.walk_point.specs.PointFault as fault
use Rattle.walk.specs.Blocks as program
use Rattle.walk.specs.Index.{index_of, point_at}
use Rattle.walk.specs.Successors as successors
use Rattle.walk.specs.Graph.{In, least}
use Rattle.walk.specs.Verdict as verdict
use Rattle.state.specs.State as state
use Rattle.machine.specs.Effect as effect
use Rattle.machine.specs.Engine as engine
use Rattle.machine.specs.Run.{outs, state_after}
use Rattle.walk.proofs.Verdicts.Fast.{closure_fast, walks_fast, blocks_fast, read_fast, verdict_fast, fast_is}
use Rattle.proved_cases.specs.Images.{case_a}
use Rattle.proved_cases.specs.Table.{Question, Reply, answer_of, standings, trail_of, ask, Entry, case_table}

-- the answer by the fast twin
abbrev quick : Question → Reply
quick (Question.verdict bytes) = answer_of (verdict_fast bytes marks_length)
quick (Question.lent n) = answer_of (verdict_fast case_a n)
quick (Question.instead one other) = ask (Question.instead one other)
quick (Question.number bytes) = ask (Question.number bytes)
quick (Question.passes bytes k) = ask (Question.passes bytes k)
quick (Question.divided a b) = ask (Question.divided a b)
quick (Question.divided_by a b) = ask (Question.divided_by a b)
quick (Question.requested bytes starts) = ask (Question.requested bytes starts)
quick (Question.stepwise bytes steps) = trail_of bytes steps (verdict_fast bytes marks_length)
quick (Question.writes landings blocks) = ask (Question.writes landings blocks)

quick_is : (q : Question) → quick q ≡ ask q
quick_is (Question.verdict bytes) = ap answer_of (fast_is bytes marks_length)
quick_is (Question.lent n) = ap answer_of (fast_is case_a n)
quick_is (Question.instead one other) = refl
quick_is (Question.number bytes) = refl
quick_is (Question.passes bytes k) = refl
quick_is (Question.divided a b) = refl
quick_is (Question.divided_by a b) = refl
quick_is (Question.requested bytes starts) = refl
quick_is (Question.stepwise bytes steps) = ap (trail_of bytes steps) (fast_is bytes marks_length)
quick_is (Question.writes landings blocks) = refl

-- the answers that are given, and those that the rows say
abbrev given : List Entry → List Reply
given = map (λ r. quick r.question)

abbrev expected : List Entry → List Reply
expected = map (λ r. r.answer)

computed : given case_table ≡ expected case_table
unfolding case_table
    wrap.word wrap.wrap ops.quotient
    types.takes types.cycle_of
    homes.inputs homes.outputs_written homes.home_in homes.home_of pins.on_board pins.presence pins.pin_of
    number.number_bytes number.second_byte number.first_byte number.number_at
    each_below header.stands header.header_checked header.checked header.same_header header.same_landings scan.stands_at scan.judged
    scan.taken scan.more scan.scan scan.first_refusal scan.length_result scan.read_with scan.closed scan.header_of scan.landings_of scan.blocks_of
    writer.words_of writer.room_result writer.written_with writer.judged_write writer.landings_stand writer.judged_for writer.written
    rows.rows rows.row_in rows.row_of
    operands.operands operands.all_zero operands.unused_zero
    judged.operand_fault judged.command_fault judged.row_fault judged.block_fault
    flow.flow_of
    tasks.foreign tasks.permitted fault.flow_fault fault.fault_of
    program.command_at program.fault_at
    index_of point_at
    successors.flow_at successors.successors successors.indices successors.next_of
    least
    verdict.least_foreign verdict.least_bad verdict.verdict_by
    closure_fast walks_fast blocks_fast read_fast verdict_fast
    state.fresh_values state.fresh
    effect.divides effect.effect_in effect.effect_of
    engine.performed engine.fits engine.task_step engine.step
    outs state_after standings
computed = refl

-- a row of a list whose answers are right
each : (rs : List Entry) → given rs ≡ expected rs → (r : Entry) → In r rs → ask r.question ≡ r.answer
each [] e r m = absurd m
each (s ∷ rs) e r (inl i) = rw i (sym (quick_is s.question) ∙ ap (λ (answers : List Reply). get_or answers 0 s.answer) e)
each (s ∷ rs) e r (inr m) = each rs (ap tail e) r m

pub all_right : (r : Entry) → In r case_table → ask r.question ≡ r.answer
all_right = each case_table computed

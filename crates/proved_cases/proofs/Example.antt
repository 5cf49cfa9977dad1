-- The example is accepted, by computation, and the theorem holds of its steps; what they come to is computed too.
use Rattle.std.specs.Prelude.{Ok}
use Prim.Native.Nat.{ℕ}
use mathlib.Core.Path.{◌≡◌, refl, sym, ◌∙◌}
use mathlib.Core.List.{List, map}
use lib.ListN.{get_or, take}
use Rattle.logic.specs.Each.{each_below}
use Rattle.limits.specs.Limits.{marks_length}
use Rattle.drive.specs.Types as types
use Rattle.image_number.specs.Number as number
use Rattle.image_header.specs.Rows as header
use Rattle.image_header.specs.Scan as scan
use Rattle.command_table.specs.Rows as rows
use Rattle.command_operands.specs.Operands as operands
use Rattle.command_judge.specs.BlockFault as judged
use Rattle.num_arith.specs.Ops as ops
use Rattle.walk_flow.specs.Flow as flow
use Rattle.walk_flow.specs.Permission as tasks
use Rattle.walk_point.specs.PointFault as fault
use Rattle.walk.specs.Blocks as program
use Rattle.walk.specs.Index.{index_of, point_at}
use Rattle.walk.specs.Successors as successors
use Rattle.walk.specs.Graph.{least}
use Rattle.walk.specs.Verdict as verdict
use Rattle.walk.specs.Verdict.{verdict_of}
use Rattle.walk.proofs.Verdicts.Fast.{closure_fast, walks_fast, blocks_fast, read_fast, verdict_fast, fast_is}
use Rattle.state.specs.State as state
use Rattle.state.specs.declared.Task.{Task}
use Rattle.machine.specs.Effect as effect
use Rattle.machine.specs.Engine as engine
use Rattle.machine.specs.declared.StepOut.{StepOut}
use Rattle.machine.specs.Run.{outs, state_after}
use Rattle.machine.specs.Theorem.{ValueRun, loaded}
use Rattle.machine.specs.Answers.{Answer}
use Rattle.machine.proofs.Runs.EveryRun.{every_value_run}
use Rattle.proved_cases.specs.Example.{program as image, steps, example_answers, Place, places}
use Rattle.proved_cases.specs.Example.{until_start, places_at_start, until_jump, places_at_jump}

abbrev answers_of : List StepOut → List Answer
answers_of = map (λ (o : StepOut). o.answer)

abbrev places_of : List Task → List Place
places_of = map (λ (task : Task). record { status = task.status; block = task.block; depth = task.depth })

-- where the tasks are after the first n steps
abbrev places_after : ℕ → List Place
places_after n = places_of (state_after image (loaded image) (take n steps)).tasks

-- what is computed: the verdict, the answers, where the tasks are afterwards and at two places before, and flag 1
record Computed : Type 0 where
  verdict : verdict_fast image marks_length ≡ Ok tt
  example_answers : answers_of (outs image (loaded image) steps) ≡ example_answers
  places : places_of (state_after image (loaded image) steps).tasks ≡ places
  at_start : places_after until_start ≡ places_at_start
  at_jump : places_after until_jump ≡ places_at_jump
  flag : get_or (state_after image (loaded image) steps).values.cells.flags 1 0 ≡ 1

computed : Computed
unfolding
    types.takes types.cycle_of
    number.number_bytes number.second_byte number.first_byte number.number_at
    each_below header.stands header.header_checked header.checked header.same_header header.same_landings scan.stands_at scan.judged
    scan.taken scan.more scan.scan scan.first_refusal scan.length_result scan.read_with scan.closed scan.header_of scan.landings_of scan.blocks_of
    rows.rows rows.row_in rows.row_of
    operands.operands operands.all_zero operands.unused_zero
    judged.operand_fault judged.command_fault judged.row_fault judged.block_fault
    flow.flow_of
    tasks.foreign tasks.permitted fault.flow_fault fault.fault_of
    program.command_at program.fault_at
    index_of point_at
    successors.flow_at successors.successors successors.indices successors.next_of
    least
    verdict.least_foreign verdict.least_bad verdict.verdict_by
    closure_fast walks_fast blocks_fast read_fast verdict_fast
    ops.quotient
    state.fresh_values state.fresh
    effect.divides effect.effect_in effect.effect_of
    engine.performed engine.fits engine.task_step engine.step
    outs state_after
computed = record { verdict = refl; example_answers = refl; places = refl; at_start = refl; at_jump = refl; flag = refl }

pub accepted : verdict_of image marks_length ≡ Ok tt
accepted = sym (fast_is image marks_length) ∙ computed.verdict

-- the theorem, of these steps
pub holds : ValueRun image steps
holds = every_value_run image marks_length accepted steps

pub answered : answers_of (outs image (loaded image) steps) ≡ example_answers
answered = computed.example_answers

pub placed : places_of (state_after image (loaded image) steps).tasks ≡ places
placed = computed.places

pub placed_at_start : places_after until_start ≡ places_at_start
placed_at_start = computed.at_start

pub placed_at_jump : places_after until_jump ≡ places_at_jump
placed_at_jump = computed.at_jump

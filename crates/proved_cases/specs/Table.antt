-- Document 01's cases as one table of questions and answers ("Examples and faults to shut out"), and the change requests'. The questions are put to
-- the definitions that stand in the contracts.
use Rattle.std.specs.Prelude.{ℕ, List, [], ◌∷◌, ◌++◌, map, replicate, ℤ, pos, negsuc, Option, Some, None, Result, Ok, Err}
use Rattle.image_number.specs.Number.{number_at}
use Rattle.image_number.specs.declared.Number.{Number}
use Rattle.image_number.specs.declared.NumberFault.{NumberFault}
use Rattle.image_number.specs.declared.NumberFault.TheVariants.{EndsEarly, NotShortest}
use Rattle.image_result.specs.ImageResult.{result_number, result_place}
use Rattle.image_result.specs.ImageResult.{ImageResult}
use Rattle.image_result.specs.declared.ImageFault.TheVariants as result
use Rattle.image_writer.specs.Writer.{with_landings, written}
use Rattle.command_operands.specs.Operands.{command}
use Rattle.command_operands.specs.declared.Command.{Command}
use Rattle.walk.specs.Verdict.{verdict_of, verdict_number, verdict_place, verdict_task, verdict_depth}
use Rattle.walk.specs.Verdict.{Verdict}
use Rattle.state.specs.State.{start_axis, fresh_values, with_variable, task_at}
use Rattle.state.specs.declared.Task.{Task}
use Rattle.state.specs.declared.State.{State}
use Rattle.machine.specs.Inputs.{Inputs, inputs_of}
use Rattle.machine.specs.declared.Context.{Context}
use Rattle.machine.specs.Effect.{effect_of, variable}
use Rattle.machine.specs.Engine.{step}
use Rattle.machine.specs.declared.StepOut.{StepOut}
use Rattle.machine.specs.Answers.{Answer}
use Rattle.machine.specs.Numbers.{answer_number, answer_place, answer_task, answer_depth}
use Rattle.machine.specs.Run.{outs, state_after}
use Rattle.machine.specs.Theorem.{loaded}
use Rattle.machine.specs.declared.Request.{Request}
use Rattle.machine.specs.declared.Request.TheVariants.{MoveTo}
use Rattle.proved_cases.specs.Images.{block, plain, toward, header, image, image_with, image_for, image_at, block_a, case_a, chain}
use Rattle.proved_cases.specs.Images.{landing_header, landing_image, landing_image_at, first_blocks, landing_bytes, assign}

-- ---- steps

-- a step as a row of the table has it: its task, ramp ended, in window, how many input levels are given, which are low, and the start input
pub record Turn : Type 0 where
  pub task : ℕ
  pub ramp_ended : ℕ
  pub in_window : ℕ
  pub levels : ℕ
  pub start : ℕ

-- the start input is low
abbrev pub turn : ℕ → ℕ → ℕ → ℕ → Turn
turn task ramp_ended in_window levels = record { task = task; ramp_ended = ramp_ended; in_window = in_window; levels = levels; start = 0 }

-- with both bits, and as many input levels as there are pins
abbrev pub both_bits : ℕ → Turn
both_bits task = turn task 1 1 256

-- with this level of the start input, and neither bit
abbrev pub start_at : ℕ → ℕ → Turn
start_at task level = record { task = task; ramp_ended = 0; in_window = 0; levels = 256; start = level }

-- ---- names

-- document 01's letter of a row, or what the row is about where it has none
pub data Name : Type 0 where
  A : Name
  B : Name
  C : Name
  D : Name
  E : Name
  F : Name
  G : Name
  H : Name
  I : Name
  J : Name
  K : Name
  L : Name
  chain_of : ℕ → Name
  marks_of : ℕ → Name
  block_before_task : Name
  task_before_depth : Name
  -- these blocks on a type with these boards in its slots B and C
  on_drive : ℕ → ℕ → ℕ → List (List ℕ) → Name
  -- an image that sets this output lent in place of one that sets output 12
  output_instead : ℕ → Name
  held_start : Name
  start_mark : Name
  -- steps of these blocks
  in_steps : List (List ℕ) → List Turn → Name
  -- a header of format 2 that goes on with these bytes
  landing_begun : List ℕ → Name
  -- these blocks in format 1
  in_format1 : List (List ℕ) → Name
  -- a start, landing blocks and blocks; steps of such an image from block 0
  landing : ℕ → List ℕ → List (List ℕ) → Name
  landing_steps : List ℕ → List (List ℕ) → List Turn → Name
  -- landing blocks lent in place of others
  landings_instead : List ℕ → List ℕ → Name
  -- the writer of format 2, lent these bytes of landing blocks and so many of blocks
  writer : List ℕ → ℕ → Name

-- ---- questions and answers

pub data Question : Type 0 where
  -- the verdict on an image, with marks of exactly the length that 13 asks for
  verdict : List ℕ → Question
  -- the verdict on case A with so many bytes of marks
  lent : ℕ → Question
  -- the answer of BIAS's first step after a load of the first image, with the second lent in its place
  instead : List ℕ → List ℕ → Question
  -- the number at place 0 of these bytes
  number : List ℕ → Question
  -- where BIAS stands before and after its step k of an image, the first being step 0
  passes : List ℕ → ℕ → Question
  -- what 85 makes of a variable and an operand, and 8D of two variables
  divided : ℤ → ℤ → Question
  divided_by : ℤ → ℤ → Question
  -- the motion requests of BIAS steps of an image, with these levels of the start input
  requested : List ℕ → List ℕ → Question
  -- the load of an image, and what steps of it come to
  stepwise : List ℕ → List Turn → Question
  -- the writer of format 2, for type 2 with both slots empty, start 0 and 200 blocks, lent these bytes of landing blocks, so many of blocks and room for 2000
  writes : List ℕ → ℕ → Question

-- a block, and T and k of the wait that is pending there (0 and 0: none)
pub record Stand : Type 0 where
  pub block : ℕ
  pub time : ℕ
  pub turns : ℕ

abbrev pub stand : ℕ → ℕ → ℕ → Stand
stand block time turns = record { block = block; time = time; turns = turns }

-- document 01's number of a step's answer, and BIAS's block after the step
pub record Came : Type 0 where
  pub answered : ℕ
  pub at : ℕ

abbrev pub came : ℕ → ℕ → Came
came answered at = record { answered = answered; at = at }

pub data Reply : Type 0 where
  -- document 01's number, then byte or block, task and depth; all 0 for an image that is accepted and a step that is carried out
  refusal : ℕ → ℕ → ℕ → ℕ → Reply
  value : ℕ → Reply
  -- document 01's number
  no_number : ℕ → Reply
  standing : Stand → Stand → Reply
  whole : ℤ → Reply
  motions : List (Option Request) → Reply
  -- document 01's number of the load, and each step
  trail : ℕ → List Came → Reply

abbrev pub accepted : Reply
accepted = refusal 0 0 0 0

abbrev pub answer_of : Verdict → Reply
answer_of v = refusal (verdict_number v) (verdict_place v) (verdict_task v) (verdict_depth v)

abbrev pub step_answer_of : Answer → Reply
step_answer_of a = refusal (answer_number a) (answer_place a) (answer_task a) (answer_depth a)

abbrev pub result_reply : ImageResult → Reply
result_reply r = refusal (result_number r) (result_place r) 0 0

abbrev pub number_reply : Result Number NumberFault → Reply
number_reply (Ok x) = value x.value
number_reply (Err EndsEarly) = no_number (result_number (Err (result.EndsEarly 0)))
number_reply (Err NotShortest) = no_number (result_number (Err (result.NotShortest 0)))

-- what a command of BIAS may read on a 637 where all inputs are low and no wait is pending
abbrev pub low : Context
low = record { drive = record { model = 2; b = 0; c = 0 }; start = 0; ramp_ended = 0; in_window = 0; time = 0; turns = 0 }

-- variable 0 after a command, where variables 1 and 2 hold these
abbrev pub result_of : Command → ℤ → ℤ → ℤ
result_of c a b = variable (effect_of [] [] low c (with_variable 1 a (with_variable 2 b fresh_values))).values 0

abbrev pub bias_step : ℕ → Inputs
bias_step start = inputs_of 0 (replicate 256 0) start 0 0

abbrev pub stand_at : Task → Stand
stand_at task = stand task.block task.time task.turns

-- before and after one more step
unfoldable pub standings : List ℕ → State → Reply
standings bytes s = standing (stand_at (task_at s 0)) (stand_at (task_at (step bytes s (bias_step 0)).state 0))

abbrev pub motions_of : List StepOut → List (Option Request)
motions_of = map (λ (o : StepOut). o.request)

abbrev pub step_for : Turn → Inputs
step_for x = inputs_of x.task (replicate x.levels 0) x.start x.ramp_ended x.in_window

abbrev pub came_of : StepOut → Came
came_of o = came (answer_number o.answer) (task_at o.state 0).block

-- where the load of the image comes to this verdict
abbrev pub trail_of : List ℕ → List Turn → Verdict → Reply
trail_of bytes steps v = trail (verdict_number v) (map came_of (outs bytes (loaded bytes) (map step_for steps)))

abbrev pub ask : Question → Reply
ask (verdict bytes) = answer_of (verdict_of bytes 27000)
ask (lent n) = answer_of (verdict_of case_a n)
ask (instead loadedImage lentImage) = step_answer_of (step lentImage (loaded loadedImage) (bias_step 0)).answer
ask (number bytes) = number_reply (number_at bytes 0)
ask (passes bytes k) = standings bytes (state_after bytes (loaded bytes) (replicate k (bias_step 0)))
ask (divided a b) = whole (result_of (command 0x85 0 1 0 0 b) a b)
ask (divided_by a b) = whole (result_of (command 0x8D 0 1 2 0 (pos 0)) a b)
ask (requested bytes starts) = motions (motions_of (outs bytes (loaded bytes) (map bias_step starts)))
ask (stepwise bytes steps) = trail_of bytes steps (verdict_of bytes 27000)
ask (writes landings blocks) = result_reply (written 2 (with_landings (2 ∷ 2 ∷ 0 ∷ 0 ∷ 0 ∷ 200 ∷ []) landings) blocks 2000).result

-- ---- the table

pub record Entry : Type 0 where
  pub name : Name
  pub question : Question
  pub answer : Reply

abbrev pub entry : Name → Question → Reply → Entry
entry n q a = record { name = n; question = q; answer = a }

-- a move to the stored position, for ever; and one with the start mark set before it
abbrev pub mover : List ℕ
mover = image (plain 0x00 ∷ block_a ∷ [])

abbrev pub marked : List ℕ
marked = image (plain 0x0E ∷ plain 0x00 ∷ toward 0x55 1 ∷ [])

-- a wait of 1000 ms, then a jump back to it, on a type of drive
abbrev pub waiter : ℕ → List ℕ
waiter model = image_for model (block 0x59 0xF4 1 0 ∷ block_a ∷ [])

-- 72, an output set; 63, flag 0 read from an input; 6E, a jump to block 0 by bit 0 of variable 0
abbrev pub output_set : ℕ → List ℕ
output_set pin = block 0x72 pin 1 0

abbrev pub input_read : ℕ → List ℕ
input_read pin = block 0x63 0 pin 0

abbrev pub bit_jump_block : List ℕ
bit_jump_block = plain 0x6E

abbrev pub drive_row : ℕ → ℕ → ℕ → List (List ℕ) → Reply → Entry
drive_row model b c blocks = entry (on_drive model b c blocks) (verdict (image_with model b c blocks))

abbrev pub instead_row : ℕ → Reply → Entry
instead_row pin = entry (output_instead pin) (instead (image (output_set 12 ∷ block_a ∷ [])) (image (output_set pin ∷ block_a ∷ [])))

-- of an image that is accepted
abbrev pub step_row : List (List ℕ) → List Turn → List Came → Entry
step_row blocks steps l = entry (in_steps blocks steps) (stepwise (image blocks) steps) (trail 0 l)

-- 0E, a move of this code, 58, 55 02: the move, and the wait for its position
abbrev pub move_and_wait : ℕ → List (List ℕ)
move_and_wait code = plain 0x0E ∷ plain code ∷ plain 0x58 ∷ toward 0x55 2 ∷ []

-- four steps of it with both bits: the third stays, the fourth passes
abbrev pub move_row : ℕ → Entry
move_row code =
    step_row (move_and_wait code) (both_bits 0 ∷ both_bits 0 ∷ both_bits 0 ∷ both_bits 0 ∷ []) (came 0 1 ∷ came 0 2 ∷ came 0 2 ∷ came 0 3 ∷ [])

-- 58, 55: the wait alone, and where one step with these bits leaves it
abbrev pub wait_row : ℕ → ℕ → ℕ → Entry
wait_row ramp_ended in_window at = step_row (plain 0x58 ∷ block_a ∷ []) (turn 0 ramp_ended in_window 256 ∷ []) (came 0 at ∷ [])

-- change request 1: a header, an image, steps of one that is accepted, a first step with other landing blocks lent, a call of the writer
abbrev pub begun_row : List ℕ → Reply → Entry
begun_row bytes = entry (landing_begun bytes) (verdict (landing_header bytes))

abbrev pub landing_row : ℕ → List ℕ → List (List ℕ) → Reply → Entry
landing_row start landings blocks = entry (landing start landings blocks) (verdict (landing_image_at start landings blocks))

abbrev pub landing_step_row : List ℕ → List (List ℕ) → List Turn → List Came → Entry
landing_step_row landings blocks steps l = entry (landing_steps landings blocks steps) (stepwise (landing_image landings blocks) steps) (trail 0 l)

-- four jumps
abbrev pub four_jumps : List ℕ → List ℕ
four_jumps landings = landing_image landings (block_a ∷ block_a ∷ block_a ∷ block_a ∷ [])

abbrev pub landings_row : List ℕ → List ℕ → Reply → Entry
landings_row before after = entry (landings_instead before after) (instead (four_jumps before) (four_jumps after))

abbrev pub writer_row : List ℕ → ℕ → Reply → Entry
writer_row landings blocks = entry (writer landings blocks) (writes landings blocks)

-- a sub-program that is a 56, and the 53 that it lands at, still inside the call
abbrev pub jump_in_call : List (List ℕ)
jump_in_call = toward 0x52 2 ∷ toward 0x55 1 ∷ plain 0x56 ∷ plain 0x53 ∷ []

-- 54 02, 55 01: BIAS starts the PLC, which starts BIAS by 5B
abbrev pub restarter : List (List ℕ)
restarter = toward 0x54 2 ∷ toward 0x55 1 ∷ plain 0x5B ∷ []

-- 54 03, a block, 55 02, then the PLC: 80 00 02, 5B, 55 05
abbrev pub started_anew : List ℕ → List (List ℕ)
started_anew b = toward 0x54 3 ∷ b ∷ toward 0x55 2 ∷ assign 2 0 0 0 ∷ plain 0x5B ∷ toward 0x55 5 ∷ []

-- three steps of BIAS, the second of which comes to this and leaves it stopped; two of the PLC, the second of which starts it at block 2; and its next one
abbrev pub anew_row : List ℕ → ℕ → Entry
anew_row b answered =
    landing_step_row (2 ∷ []) (started_anew b) (both_bits 0 ∷ both_bits 0 ∷ both_bits 0 ∷ both_bits 1 ∷ both_bits 1 ∷ both_bits 0 ∷ [])
    (came 0 1 ∷ came answered 1 ∷ came 18 1 ∷ came 0 1 ∷ came 0 2 ∷ came 0 2 ∷ [])

-- 54 04, 56, which halts by 22, a move, 55 03, then the PLC: 57 02, 55 05; with these levels of the start input at BIAS's three steps, where the last leaves it
abbrev pub noted_row : ℕ → ℕ → ℕ → ℕ → Entry
noted_row first second third at =
    landing_step_row (3 ∷ []) (toward 0x54 4 ∷ plain 0x56 ∷ plain 0x00 ∷ toward 0x55 3 ∷ toward 0x57 2 ∷ toward 0x55 5 ∷ [])
    (start_at 0 first ∷ start_at 0 second ∷ start_at 1 0 ∷ start_at 0 third ∷ []) (came 0 1 ∷ came 22 1 ∷ came 0 2 ∷ came 0 at ∷ [])

-- 80 with these four bytes, 56, 55 02: two steps, the second of which comes to this
abbrev pub content_row : ℕ → ℕ → ℕ → ℕ → Came → Entry
content_row a b c d second =
    landing_step_row (2 ∷ []) (assign a b c d ∷ plain 0x56 ∷ toward 0x55 2 ∷ []) (both_bits 0 ∷ both_bits 0 ∷ []) (came 0 1 ∷ second ∷ [])

unfoldable pub case_table : List Entry
case_table =
    -- A: 55 and seven 00: accepted
    entry A (verdict case_a) accepted ∷
    -- B: 50 and seven 00: 12 at block 0
    entry B (verdict (image (plain 0x50 ∷ []))) (refusal 12 0 0 0) ∷
    -- C: A with start 1: 3 at byte 4
    entry C (verdict (image_at 1 (block_a ∷ []))) (refusal 3 4 0 0) ∷
    -- D: 52, 53, operands 00: 10 at block 0, at the greatest depth, which is 5 (change request 6)
    entry D (verdict (image (plain 0x52 ∷ plain 0x53 ∷ []))) (refusal 10 0 0 5) ∷
    -- E: 50, 53, 52, 55, operands 00, start 2: 11 at block 1, depth 0
    entry E (verdict (image_at 2 (plain 0x50 ∷ plain 0x53 ∷ plain 0x52 ∷ plain 0x55 ∷ []))) (refusal 11 1 0 0) ∷
    -- F: 20 10 27 00 00 00 00 00, then 54, 55 with operands 00: 9 at task 1, block 0
    entry F (verdict (image (block 0x20 0x10 0x27 0 ∷ plain 0x54 ∷ plain 0x55 ∷ []))) (refusal 9 0 1 0) ∷
    -- G: 1F 01 00 FA 00 00 00 00, then A's block: accepted
    entry G (verdict (image (block 0x1F 1 0 0xFA ∷ block_a ∷ []))) accepted ∷
    -- H: 1F 01 01 FA instead: 7 at block 0
    entry H (verdict (image (block 0x1F 1 1 0xFA ∷ block_a ∷ []))) (refusal 7 0 0 0) ∷
    -- I: 72 08 01 then 00s: 6
    entry I (verdict (image (block 0x72 0x08 1 0 ∷ []))) (refusal 6 0 0 0) ∷
    -- I: 72 0C 01 and A's block: accepted
    entry I (verdict (image (block 0x72 0x0C 1 0 ∷ block_a ∷ []))) accepted ∷
    -- J: a wait of 1000 ms (59 F4 01) passes at k = 527 on type 2, where it was pending with k = 526
    entry J (passes (waiter 2) 527) (standing (stand 0 1000 526) (stand 1 0 0)) ∷
    -- J: at 1185 on type 4
    entry J (passes (waiter 4) 1185) (standing (stand 0 1000 1184) (stand 1 0 0)) ∷
    -- K: DC 0B is 1500
    entry K (number (0xDC ∷ 0x0B ∷ [])) (value 1500) ∷
    -- K: 80 00 gives 2, and 80 alone ends early, 1
    entry K (number (0x80 ∷ 0x00 ∷ [])) (no_number 2) ∷
    entry K (number (0x80 ∷ [])) (no_number 1) ∷
    -- K: as the start of A, at byte 4
    entry K (verdict (header (0x80 ∷ 0x00 ∷ 1 ∷ block_a))) (refusal 2 4 0 0) ∷
    -- L: -7 by 2 is -3
    entry L (divided (negsuc 6) (pos 2)) (whole (negsuc 2)) ∷
    entry L (divided_by (negsuc 6) (pos 2)) (whole (negsuc 2)) ∷
    -- change request 6, a chain of 5 nested calls: accepted
    entry (chain_of 5) (verdict (chain 5)) accepted ∷
    -- of 6: 10, at the sixth call: block 10, depth 5
    entry (chain_of 6) (verdict (chain 6)) (refusal 10 10 0 5) ∷
    -- change request 6, one byte of marks under 27,000: 13, which tells their length
    entry (marks_of 26999) (lent 26999) (refusal 13 26999 0 0) ∷
    -- 27,000 are enough
    entry (marks_of 27000) (lent 27000) accepted ∷
    -- change request 2, 54 01, 20, 50: the PLC's 9 at block 1 comes before the 12 of BIAS at block 2
    entry block_before_task (verdict (image (toward 0x54 1 ∷ plain 0x20 ∷ plain 0x50 ∷ []))) (refusal 9 1 1 0) ∷
    -- change request 2, 54 03, 52 03, 55 02, 50: at block 3 the 12 of BIAS at depth 1 comes before the PLC's at depth 0
    entry task_before_depth (verdict (image (toward 0x54 3 ∷ toward 0x52 3 ∷ toward 0x55 2 ∷ plain 0x50 ∷ []))) (refusal 12 3 0 1) ∷
    -- change request 3, 72 D9 01 on type 2: 23, pin 217 is on RP-EAE, which goes into slot C
    drive_row 2 0 0 (output_set 0xD9 ∷ []) (refusal 23 0 0 0) ∷
    -- with slot C 1, and A's block behind it: accepted
    drive_row 2 0 1 (output_set 0xD9 ∷ block_a ∷ []) accepted ∷
    -- on type 0, which takes no board: 6
    drive_row 0 0 0 (output_set 0xD9 ∷ []) (refusal 6 0 0 0) ∷
    -- change request 3, 72 7D 01 on type 2: 6, pin 125 is on RP-2C8, which only type 4 takes
    drive_row 2 0 0 (output_set 0x7D ∷ []) (refusal 6 0 0 0) ∷
    -- on type 4 with slot B empty, or with RP-EA5 there: 23
    drive_row 4 0 0 (output_set 0x7D ∷ []) (refusal 23 0 0 0) ∷
    drive_row 4 1 0 (output_set 0x7D ∷ []) (refusal 23 0 0 0) ∷
    -- change request 3, 63 00 65 on type 2: 23, pin 101 is an input of RP-EA5
    drive_row 2 0 0 (input_read 0x65 ∷ []) (refusal 23 0 0 0) ∷
    -- 72 65 01, an input set as an output: 6
    drive_row 2 0 0 (output_set 0x65 ∷ []) (refusal 6 0 0 0) ∷
    -- 72 D9 02: 23 comes before the 7 of a level above 1
    drive_row 2 0 0 (block 0x72 0xD9 2 0 ∷ []) (refusal 23 0 0 0) ∷
    -- 6E on type 3: 6, which no board mends
    drive_row 3 0 0 (bit_jump_block ∷ []) (refusal 6 0 0 0) ∷
    -- change request 3, a step at a block that 23 refuses, then one that 6 does: 17 for either
    instead_row 217 (refusal 17 0 0 0) ∷
    instead_row 8 (refusal 17 0 0 0) ∷
    -- at a block that neither refuses it is carried out
    instead_row 13 accepted ∷
    -- faults: a start input that is high at load is no slope; one that is low and then high is
    entry held_start (requested mover (1 ∷ 1 ∷ 0 ∷ 1 ∷ [])) (motions (None ∷ None ∷ None ∷ Some (MoveTo start_axis) ∷ [])) ∷
    -- the start mark of 0E starts a move without a slope, which clears it
    entry start_mark (requested marked (1 ∷ 1 ∷ 1 ∷ 1 ∷ [])) (motions (None ∷ Some (MoveTo start_axis) ∷ None ∷ None ∷ [])) ∷
    -- change request 4, a move, then a 58 with both bits: the third step stays, the fourth passes; the same of 01, 03 and 04
    move_row 0x00 ∷
    move_row 0x01 ∷
    move_row 0x03 ∷
    move_row 0x04 ∷
    -- with no move since load it passes at once, on bits that are anything but 0; on one bit alone it stays
    wait_row 1 1 1 ∷
    wait_row 2 255 1 ∷
    wait_row 1 0 0 ∷
    wait_row 0 1 0 ∷
    -- a 50 between the move and the 58: it passes at once
    step_row (plain 0x0E ∷ plain 0x00 ∷ plain 0x50 ∷ plain 0x58 ∷ toward 0x55 3 ∷ []) (both_bits 0 ∷ both_bits 0 ∷ both_bits 0 ∷ both_bits 0 ∷ [])
    (came 0 1 ∷ came 0 2 ∷ came 0 3 ∷ came 0 4 ∷ []) ∷
    -- a step of the PLC between them: it still stays
    step_row (toward 0x54 5 ∷ plain 0x0E ∷ plain 0x00 ∷ plain 0x58 ∷ toward 0x55 3 ∷ toward 0x55 5 ∷ [])
    (both_bits 0 ∷ both_bits 0 ∷ both_bits 0 ∷ both_bits 1 ∷ both_bits 0 ∷ both_bits 0 ∷ [])
    (came 0 1 ∷ came 0 2 ∷ came 0 3 ∷ came 0 3 ∷ came 0 3 ∷ came 0 4 ∷ []) ∷
    -- a BIAS step between them that 15 refuses: it still stays
    step_row (move_and_wait 0x00) (both_bits 0 ∷ both_bits 0 ∷ turn 0 1 1 255 ∷ both_bits 0 ∷ both_bits 0 ∷ [])
    (came 0 1 ∷ came 0 2 ∷ came 15 2 ∷ came 0 2 ∷ came 0 3 ∷ []) ∷
    -- a move, 8D by 0 (19), a BIAS step that 18 refuses, then the PLC's 57 to a 58: it stays once
    step_row (toward 0x54 6 ∷ plain 0x0E ∷ plain 0x00 ∷ block 0x8D 0 1 2 ∷ plain 0x58 ∷ toward 0x55 4 ∷ toward 0x57 4 ∷ toward 0x55 7 ∷ [])
    (both_bits 0 ∷ both_bits 0 ∷ both_bits 0 ∷ both_bits 0 ∷ both_bits 0 ∷ both_bits 1 ∷ both_bits 0 ∷ both_bits 0 ∷ [])
    (came 0 1 ∷ came 0 2 ∷ came 0 3 ∷ came 19 3 ∷ came 18 3 ∷ came 0 4 ∷ came 0 4 ∷ came 0 5 ∷ []) ∷
    -- with no move before the 19 it passes at once
    step_row (toward 0x54 4 ∷ block 0x8D 0 1 2 ∷ plain 0x58 ∷ toward 0x55 2 ∷ toward 0x57 2 ∷ toward 0x55 5 ∷ [])
    (both_bits 0 ∷ both_bits 0 ∷ both_bits 1 ∷ both_bits 0 ∷ []) (came 0 1 ∷ came 19 1 ∷ came 0 2 ∷ came 0 3 ∷ []) ∷
    -- a stop is no move: a 58 behind it passes at once; nor is a move that waits for its start, before the PLC's 57 leads to a 58
    step_row (plain 0x0F ∷ plain 0x58 ∷ toward 0x55 1 ∷ []) (both_bits 0 ∷ both_bits 0 ∷ []) (came 0 1 ∷ came 0 2 ∷ []) ∷
    step_row (toward 0x54 4 ∷ plain 0x00 ∷ plain 0x58 ∷ toward 0x55 2 ∷ toward 0x57 2 ∷ toward 0x55 5 ∷ [])
    (both_bits 0 ∷ both_bits 0 ∷ both_bits 1 ∷ both_bits 0 ∷ []) (came 0 1 ∷ came 0 1 ∷ came 0 2 ∷ came 0 3 ∷ []) ∷
    -- change request 1, a landing count of 65, and nothing more: 21 at its byte
    begun_row (0x00 ∷ 0x01 ∷ 0x41 ∷ []) (refusal 21 6 0 0) ∷
    -- a landing count that is not shortest: 2; none: 1
    begun_row (0x00 ∷ 0x01 ∷ 0x80 ∷ 0x00 ∷ []) (refusal 2 6 0 0) ∷
    begun_row (0x00 ∷ 0x01 ∷ []) (refusal 1 6 0 0) ∷
    -- landing blocks that are equal, or that descend: 21 at the later one
    begun_row (0x00 ∷ 0x02 ∷ 0x02 ∷ 0x01 ∷ 0x01 ∷ []) (refusal 21 8 0 0) ∷
    begun_row (0x00 ∷ 0x02 ∷ 0x02 ∷ 0x01 ∷ 0x00 ∷ []) (refusal 21 8 0 0) ∷
    -- a landing block that is the count: 21
    begun_row (0x00 ∷ 0x02 ∷ 0x01 ∷ 0x02 ∷ []) (refusal 21 7 0 0) ∷
    -- with a start that is none: 3 comes before it
    begun_row (0x05 ∷ 0x02 ∷ 0x01 ∷ 0x02 ∷ []) (refusal 3 4 0 0) ∷
    -- start 128, count 129, one landing block, 129: 21 at its first byte, behind numbers of two bytes, before the length
    begun_row (0x80 ∷ 0x01 ∷ 0x81 ∷ 0x01 ∷ 0x01 ∷ 0x81 ∷ 0x01 ∷ []) (refusal 21 9 0 0) ∷
    -- 56 in format 1, which has no landing blocks: accepted
    entry (in_format1 (plain 0x56 ∷ [])) (verdict (image (plain 0x56 ∷ []))) accepted ∷
    -- 52 02, 55 01, 56, 53 with landing block 3: accepted, the 53 is inside the call; from block 2 on it is not: 11 at block 3, depth 0
    landing_row 0 (3 ∷ []) jump_in_call accepted ∷
    landing_row 2 (3 ∷ []) jump_in_call (refusal 11 3 0 0) ∷
    -- 54 02, 55 01, 5B, 55 03 with landing block 0: accepted; without the last block: 12 at block 2, task 1
    landing_row 0 (0 ∷ []) (restarter ++ (toward 0x55 3 ∷ [])) accepted ∷
    landing_row 0 (0 ∷ []) restarter (refusal 12 2 1 0) ∷
    -- 5B in BIAS: 9
    landing_row 0 (0 ∷ []) (plain 0x5B ∷ plain 0x55 ∷ []) (refusal 9 0 0 0) ∷
    -- 5B leads BIAS to a 53 at depth 0: 11 at block 4, task 0
    landing_row 0 (4 ∷ []) (restarter ++ (toward 0x55 3 ∷ plain 0x53 ∷ [])) (refusal 11 4 0 0) ∷
    -- 64 landing blocks, as many as there may be: accepted
    landing_row 0 (first_blocks 64) (plain 0x56 ∷ replicate 63 block_a) accepted ∷
    -- 56, 55 01 with landing block 1, where the variable is 0: accepted; the first step halts by 22 at block 0, the next is refused by 18
    landing_step_row (1 ∷ []) (plain 0x56 ∷ toward 0x55 1 ∷ []) (both_bits 0 ∷ both_bits 0 ∷ []) (came 22 0 ∷ came 18 0 ∷ []) ∷
    -- 80 00 02, 56, 55 02 with landing block 2: the second step lands there
    content_row 0x02 0 0 0 (came 0 2) ∷
    -- with a variable of -1, or of 65536 + 2: 22
    content_row 0xFF 0xFF 0xFF 0xFF (came 22 1) ∷
    content_row 0x02 0 1 0 (came 22 1) ∷
    -- a BIAS 56 that halts by 22 notes the start level: low, so that a move starts at a high one, or high, so that it does not
    noted_row 1 0 1 3 ∷
    noted_row 0 1 1 2 ∷
    -- 5B starts a BIAS anew that has ended (51 01), and one that a 56 has halted by 22
    anew_row (block 0x51 1 0 0) 0 ∷
    anew_row (plain 0x56) 22 ∷
    -- a PLC's 5B whose variable holds no landing block: 22 halts the PLC, and BIAS goes on where it is
    landing_step_row (3 ∷ []) (restarter ++ (toward 0x55 3 ∷ [])) (both_bits 0 ∷ both_bits 1 ∷ both_bits 1 ∷ both_bits 0 ∷ [])
    (came 0 1 ∷ came 22 1 ∷ came 18 1 ∷ came 0 1 ∷ []) ∷
    -- an image with another landing list lent in place of the loaded one: 17, whichever entry differs; with the same: carried out
    landings_row (1 ∷ 2 ∷ []) (0 ∷ 2 ∷ []) (refusal 17 0 0 0) ∷
    landings_row (1 ∷ 2 ∷ []) (1 ∷ 3 ∷ []) (refusal 17 0 0 0) ∷
    landings_row (1 ∷ 2 ∷ []) (1 ∷ 2 ∷ []) accepted ∷
    -- the writer of format 2, start 0, count 200, landing blocks 127, 128, 128: 21 where the last would stand
    writer_row (0x7F ∷ 0 ∷ 0x80 ∷ 0 ∷ 0x80 ∷ 0 ∷ []) 1600 (refusal 21 11 0 0) ∷
    -- 65 landing blocks, or an odd number of bytes: 21 where the landing count would stand; 64 are written
    writer_row (landing_bytes (first_blocks 65)) 1600 (refusal 21 7 0 0) ∷
    writer_row (landing_bytes (first_blocks 64)) 1600 accepted ∷
    writer_row (0x7F ∷ 0 ∷ 0x80 ∷ []) 1600 (refusal 21 7 0 0) ∷
    -- a good list of one, and blocks one byte short: 1, which tells their length; with all of them it is written
    writer_row (0x7F ∷ 0 ∷ []) 1599 (refusal 1 1599 0 0) ∷
    writer_row (0x7F ∷ 0 ∷ []) 1600 accepted ∷
    []

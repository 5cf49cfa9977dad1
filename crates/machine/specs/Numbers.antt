-- Document 01's number and place of an answer, and the numbers of a motion request as C is handed them (include/bias.h). What an answer or a
-- request does not have is 0.
use Rattle.std.specs.Prelude.{ℕ, pos, Option, Some, None, Ok, Err}
use Rattle.state.specs.declared.Axis.{Axis}
use Rattle.machine.specs.declared.Cause.{Cause}
use Rattle.machine.specs.declared.Cause.TheVariants.{ZeroDivisor, BadContent, NoLanding}
use Rattle.machine.specs.declared.Request.{Request}
use Rattle.machine.specs.declared.Request.TheVariants.{MoveTo, MoveBy, Forward, Backward, Stop}
use Rattle.machine.specs.Answers.{Answer}
use Rattle.machine.specs.declared.NotDone.TheVariants.{NoTask, Inputs as BadInputs, NotRunning, Differs, Halted}

-- the refusals that halt a task
abbrev pub cause_number : Cause → ℕ
cause_number ZeroDivisor = 19
cause_number BadContent = 20
cause_number NoLanding = 22

abbrev pub answer_number : Answer → ℕ
answer_number (Ok _) = 0
answer_number (Err (NoTask t)) = 15
answer_number (Err (BadInputs n)) = 15
answer_number (Err NotRunning) = 18
answer_number (Err (Differs p)) = 17
answer_number (Err (Halted q p)) = cause_number q

-- of 15 the task number or the inputs' length; of 17, 19, 20 and 22 the block before the step
abbrev pub answer_place : Answer → ℕ
answer_place (Ok _) = 0
answer_place (Err (NoTask t)) = t
answer_place (Err (BadInputs n)) = n
answer_place (Err NotRunning) = 0
answer_place (Err (Differs p)) = p.block
answer_place (Err (Halted q p)) = p.block

abbrev pub answer_task : Answer → ℕ
answer_task (Ok _) = 0
answer_task (Err (NoTask t)) = 0
answer_task (Err (BadInputs n)) = 0
answer_task (Err NotRunning) = 0
answer_task (Err (Differs p)) = p.task
answer_task (Err (Halted q p)) = p.task

abbrev pub answer_depth : Answer → ℕ
answer_depth (Ok _) = 0
answer_depth (Err (NoTask t)) = 0
answer_depth (Err (BadInputs n)) = 0
answer_depth (Err NotRunning) = 0
answer_depth (Err (Differs p)) = p.depth
answer_depth (Err (Halted q p)) = p.depth

-- ---- requests

abbrev pub request_number : Option Request → ℕ
request_number None = 0
request_number (Some (MoveTo a)) = 1
request_number (Some (MoveBy a)) = 2
request_number (Some (Forward a)) = 3
request_number (Some (Backward a)) = 4
request_number (Some (Stop mode ramp)) = 5

-- a deceleration and no other parameter
abbrev pub stop_axis : ℕ → Axis
stop_axis deceleration = record { position = pos 0; speed = 0; acceleration = 0; deceleration = deceleration }

-- the parameters that a request carries: none, a move's four, or a stop's deceleration
abbrev pub request_axis : Option Request → Axis
request_axis None = stop_axis 0
request_axis (Some (MoveTo a)) = a
request_axis (Some (MoveBy a)) = a
request_axis (Some (Forward a)) = a
request_axis (Some (Backward a)) = a
request_axis (Some (Stop mode ramp)) = stop_axis ramp

abbrev pub request_mode : Option Request → ℕ
request_mode None = 0
request_mode (Some (MoveTo a)) = 0
request_mode (Some (MoveBy a)) = 0
request_mode (Some (Forward a)) = 0
request_mode (Some (Backward a)) = 0
request_mode (Some (Stop mode ramp)) = mode

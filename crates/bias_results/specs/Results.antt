-- What C is handed (include/bias.h): the structs of results, by document 01's number and place of what the library answers. Parts that
-- are not named are 0, and so are the fields that a request does not carry.
use Rattle.std.specs.Prelude.{ℕ, cond, pos, Option}
use Rattle.image_result.specs.ImageResult.{result_number, result_place, done}
use Rattle.walk.specs.Verdict.{verdict_number, verdict_place, verdict_task, verdict_depth}
use Rattle.walk.specs.Verdict.{Verdict}
use Rattle.image_writer.specs.declared.Written.{Written}
use Rattle.machine.specs.Numbers.{answer_number, answer_place, answer_task, answer_depth, request_number, request_axis, request_mode}
use Rattle.machine.specs.declared.Request.{Request}
use Rattle.machine.specs.Answers.{Answer}
use Rattle.bias_results.specs.declared.BiasVerdict.{BiasVerdict}
use Rattle.bias_results.specs.declared.BiasAnswer.{BiasAnswer}

-- 16: the lent buffer is no state. It is the buffer's own number; every other comes from what the library answers
abbrev pub no_state : ℕ
no_state = 16

-- ---- loads and writes

abbrev pub numbered : ℕ → ℕ → BiasVerdict
numbered number place = record { place = place; number = number; task = 0; depth = 0 }

abbrev pub verdict_for : Verdict → BiasVerdict
verdict_for v = record { place = verdict_place v; number = verdict_number v; task = verdict_task v; depth = verdict_depth v }

-- the length written stands in the place
abbrev pub written_for : Written → BiasVerdict
written_for w = cond (done w.result) (numbered 0 w.length) (numbered (result_number w.result) (result_place w.result))

-- ---- steps

-- 16, and no motion
abbrev pub no_state_answer : BiasAnswer
no_state_answer = record {
  place = 0;
  number = no_state;
  task = 0;
  depth = 0;
  motion = 0;
  position = pos 0;
  speed = 0;
  acceleration = 0;
  deceleration = 0;
  mode = 0;
}

abbrev pub answer_for : Option Request → Answer → BiasAnswer
answer_for m a = record {
  place = answer_place a;
  number = answer_number a;
  task = answer_task a;
  depth = answer_depth a;
  motion = request_number m;
  position = (request_axis m).position;
  speed = (request_axis m).speed;
  acceleration = (request_axis m).acceleration;
  deceleration = (request_axis m).deceleration;
  mode = request_mode m;
}

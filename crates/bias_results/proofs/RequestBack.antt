-- Nothing of a motion request is lost on its way to C: it can be read back from the fields of the answer.
use Rattle.std.specs.Prelude.{Option, Some, None}
use mathlib.Core.Path.{◌≡◌, refl}
use mathlib.Core.Bool.{cond}
use lib.Dec.{eqb}
use Rattle.state.specs.declared.Axis.{Axis}
use Rattle.machine.specs.declared.Request.{Request}
use Rattle.machine.specs.declared.Request.TheVariants.{MoveTo, MoveBy, Forward, Backward, Stop}
use Rattle.machine.specs.Answers.{Answer}
use Rattle.bias_results.specs.Results.{answer_for}
use Rattle.bias_results.specs.declared.BiasAnswer.{BiasAnswer}

abbrev axis_from : BiasAnswer → Axis
axis_from r = record { position = r.position; speed = r.speed; acceleration = r.acceleration; deceleration = r.deceleration }

abbrev pub request_from : BiasAnswer → Option Request
request_from r =
    cond (eqb r.motion 1) (Some (MoveTo (axis_from r)))
    (cond (eqb r.motion 2) (Some (MoveBy (axis_from r)))
    (cond (eqb r.motion 3) (Some (Forward (axis_from r)))
    (cond (eqb r.motion 4) (Some (Backward (axis_from r)))
    (cond (eqb r.motion 5) (Some (Stop r.mode r.deceleration)) None))))

pub request_back : (m : Option Request) (a : Answer) → request_from (answer_for m a) ≡ m
request_back None a = refl
request_back (Some (MoveTo x)) a = refl
request_back (Some (MoveBy x)) a = refl
request_back (Some (Forward x)) a = refl
request_back (Some (Backward x)) a = refl
request_back (Some (Stop mode ramp)) a = refl

-- What an action comes to, and the forms of actions: those of effects (machine, Effect), with what changes in the place of the values.
use Rattle.std.specs.Prelude.{ℕ, Bool, ◌||◌, cond, List, get_or, ℤ, pos, Option, Some, None}
use Rattle.std.specs.List.{find}
use Rattle.limits.specs.Limits.{most_time}
use Rattle.num_arith.specs.Ops.{eq_z}
use Rattle.command_operands.specs.declared.Command.{Command}
use Rattle.state.specs.Change.{changed}
use Rattle.state.specs.State.{first_axis}
use Rattle.state.specs.declared.Axis.{Axis}
use Rattle.state.specs.declared.Change.{Change}
use Rattle.state.specs.declared.Change.TheVariants.{Variable, Parameters, Mark}
use Rattle.state.specs.declared.Motion.{Motion}
use Rattle.state.specs.declared.Notes.{Notes}
use Rattle.state.specs.declared.Values.{Values}
use Rattle.machine.specs.Effect.{effect, is_set, natural, within, started, waits, time_of, is_landing}
use Rattle.machine.specs.declared.Cause.{Cause}
use Rattle.machine.specs.declared.Cause.TheVariants.{ZeroDivisor, BadContent, NoLanding}
use Rattle.machine.specs.declared.Context.{Context}
use Rattle.machine.specs.declared.Effect.{Effect}
use Rattle.machine.specs.declared.Outcome.{Outcome}
use Rattle.machine.specs.declared.Outcome.TheVariants.{GoOn, Stay, Jump, Halt}
use Rattle.machine.specs.declared.Request.{Request}
use Rattle.exec_action.specs.declared.Action.{Action}

-- a variable's content
abbrev pub content : List ℤ → ℕ → ℤ
content variables x = get_or variables x (pos 0)

-- a flag, or an output's level
abbrev pub level_of : List ℕ → ℕ → ℕ
level_of levels x = get_or levels x 0

-- the effect of an action on values
abbrev pub acted : Action → Values → Effect
acted a v = effect (changed a.change v) a.request a.outcome

-- at most one change, at most one motion is asked for, and the task goes on
abbrev pub asking : Option Change → Option Request → Action
asking change m = record { change = change; request = m; outcome = GoOn }

-- at most one change, and the task goes on
abbrev pub setting : Option Change → Action
setting change = asking change None

-- a variable is set
abbrev pub assigning : Command → ℤ → Action
assigning c z = setting (Some (Variable c.x z))

-- nothing changes but the task
abbrev pub flowing : Outcome → Action
flowing o = record { change = None; request = None; outcome = o }

-- a jump where a condition holds
abbrev pub jumping_if : Bool → ℕ → Action
jumping_if t a = flowing (cond t (Jump a) GoOn)

-- a halt changes nothing
abbrev pub halting : Cause → Action
halting q = flowing (Halt q)

-- a quotient; a zero divisor is 19
abbrev pub dividing : Command → Option ℤ → Action
dividing c (Some z) = assigning c z
dividing c None = halting ZeroDivisor

-- a move, which clears the start mark; it stays until it is started
abbrev pub starting : Context → Motion → Notes → Request → Action
starting g motion notes request = cond (started g motion notes) (asking (Some (Mark 0)) (Some request)) (flowing (Stay 0 0))

-- a parameter is set to a content: 20 unless it is in range
abbrev pub loading : ℕ → (ℕ → Axis → Axis) → ℤ → Axis → Action
loading most put content axis = cond (within 1 most content) (setting (Some (Parameters first_axis (put (natural content) axis)))) (halting BadContent)

-- a wait for as long as a content says, which is judged by 20 unless the wait is pending
abbrev pub waiting : Context → ℤ → Action
waiting g content =
    cond (is_set g.time || within 0 most_time content) (flowing (waits (time_of g.drive.model (natural content)) g)) (halting BadContent)

-- the landing block of a list that a content names, if it names one
unfoldable pub landing_of : List ℕ → ℤ → Option ℕ
landing_of landings z = find (λ a. eq_z z (pos a)) landings

-- on to the landing block that a content names, 22 unless it names one
abbrev pub landing : List ℕ → (ℕ → Outcome) → ℤ → Action
landing landings to content = cond (is_landing landings content) (flowing (to (natural content))) (halting NoLanding)

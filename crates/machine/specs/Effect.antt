-- What each command does: to the values, to the axis by a request, and to its task. One row for each code, from the command's page in 000 (its number stands
-- behind the row) and document 01, "Running"; 56 and 5B are change request 1's. The engine's step and the reference machine both use these rows, and share
-- nothing else of what a step does. Sources are read before the target is written.
use Rattle.std.specs.Prelude.{ℕ, zero, suc, ◌+◌, ◌-◌, ◌*◌, ◌%◌, Bool, true, false, ◌&&◌, ◌||◌, not, cond, List, [], ◌∷◌, ◌++◌, eqb, ltb, get_or, ℤ, pos, negsuc, ◌+ℤ◌, ◌-ℤ◌, ◌*ℤ◌, Option, Some, None}
use Rattle.std.specs.Int.Signed.{le_z}
use Rattle.std.specs.Int.{w32}
use Rattle.limits.specs.Limits.{bias, plc, mathematics, most_speed, most_ramp, most_time}
use Rattle.num_arith.specs.Wrap.{wrap}
use Rattle.num_arith.specs.Ops.{quotient, holds, bit_at, eq_z}
use Rattle.drive.specs.Types.{type_637_plus}
use Rattle.command_operands.specs.declared.Command.{Command}
use Rattle.state.specs.State.{with_variable, with_flag, with_output, first_axis, axis_of, with_axis, with_mark}
use Rattle.state.specs.State.{with_position, with_speed, with_acceleration, with_deceleration}
use Rattle.state.specs.Wait.{due}
use Rattle.state.specs.declared.Axis.{Axis}
use Rattle.state.specs.declared.Motion.{Motion}
use Rattle.state.specs.declared.Notes.{Notes}
use Rattle.state.specs.declared.Values.{Values}
use Rattle.machine.specs.Inputs.{input_at}
use Rattle.machine.specs.declared.Context.{Context}
use Rattle.machine.specs.declared.Request.{Request}
use Rattle.machine.specs.declared.Request.TheVariants.{MoveTo, MoveBy, Forward, Backward, Stop}
use Rattle.machine.specs.declared.Cause.{Cause}
use Rattle.machine.specs.declared.Cause.TheVariants.{ZeroDivisor, BadContent, NoLanding}
use Rattle.machine.specs.declared.Outcome.{Outcome}
use Rattle.machine.specs.declared.Outcome.TheVariants.{GoOn, Stay, Jump, Call, Return, Start, Restart, End, Halt}
use Rattle.machine.specs.declared.Effect.{Effect}

-- ---- forms of effects

abbrev pub effect : Values → Option Request → Outcome → Effect
effect v m o = record { values = v; request = m; outcome = o }

-- the values change, and the task goes on
abbrev pub sets : Values → Effect
sets v = effect v None GoOn

-- nothing changes but the task
abbrev pub flows : Values → Outcome → Effect
flows v o = effect v None o

-- a jump where a condition holds
abbrev pub jump_if : Bool → ℕ → Values → Effect
jump_if t a v = flows v (cond t (Jump a) GoOn)

-- a halt changes nothing
abbrev pub halts : Cause → Values → Effect
halts q v = flows v (Halt q)

-- what a command does
abbrev pub CommandEffect : Type 0
CommandEffect = Context → Command → Values → Effect

-- ---- reading

abbrev pub variable : Values → ℕ → ℤ
variable v x = get_or v.cells.variables x (pos 0)

abbrev pub flag : Values → ℕ → ℕ
flag v x = get_or v.cells.flags x 0

abbrev pub output : Values → ℕ → ℕ
output v x = get_or v.cells.outputs x 0

abbrev pub bit : Bool → ℕ
bit true = 1
bit false = 0

abbrev pub is_set : ℕ → Bool
is_set x = not (eqb x 0)

-- a number as a natural one; only asked of numbers that are not negative
abbrev pub natural : ℤ → ℕ
natural (pos n) = n
natural (negsuc n) = 0

abbrev pub within : ℕ → ℕ → ℤ → Bool
within least most z = le_z (pos least) z && le_z z (pos most)

-- ---- what several commands do alike

-- conditions of 61, 6E, 70, 71: 0 equal, 1 unequal
abbrev pub compares : ℕ → ℕ → ℕ → Bool
compares condition a b = cond (eqb condition 0) (eqb a b) (not (eqb a b))

-- a move is carried out when the start mark stands, which it clears, or at a rising slope of the start input: high now, low at the preceding BIAS step
abbrev pub started : Context → Motion → Notes → Bool
started g motion notes = is_set motion.mark || (is_set g.start && eqb notes.level 0)

abbrev pub moves : (Axis → Request) → CommandEffect
moves kind g c v = cond (started g v.motion v.notes) (effect (with_mark 0 v) (Some (kind (axis_of first_axis v))) GoOn) (flows v (Stay 0 0))

-- 58 passes when the ramp has ended, the position is in the window, and the preceding BIAS step, refused and halted ones apart, was no move (change
-- request 4)
abbrev pub arrived : Context → Notes → Bool
arrived g notes = is_set g.ramp_ended && (is_set g.in_window && eqb notes.moved 0)

-- a wait of T ms: at the first step T is taken with k = 0, at each later one k grows by one
abbrev pub waits : ℕ → Context → Outcome
waits time g =
    cond (eqb g.time 0)
    (cond (due g.drive.model time 0) GoOn (Stay time 0))
    (cond (due g.drive.model g.time (g.turns + 1)) GoOn (Stay g.time (g.turns + 1)))

-- a parameter from a variable: 20 unless it is in range
abbrev pub parameter : ℕ → (ℕ → Axis → Axis) → CommandEffect
parameter most put g c v =
    cond (within 1 most (variable v c.x)) (sets (with_axis first_axis (put (natural (variable v c.x)) (axis_of first_axis v)) v)) (halts BadContent v)

-- a variable is set
abbrev pub assigns : Command → ℤ → Values → Effect
assigns c z v = sets (with_variable c.x z v)

-- a quotient; a zero divisor is 19
unfoldable pub divides : Command → Option ℤ → Values → Effect
divides c (Some z) v = assigns c z v
divides c None v = halts ZeroDivisor v

-- n flags from flag k on as a number, the first one lowest
unfoldable pub flag_number : List ℕ → ℕ → ℕ → ℕ
flag_number flags k zero = 0
flag_number flags k (suc n) = get_or flags k 0 + 2 * flag_number flags (k + 1) n

-- 5A: the content is T in ms; types before the 637+ count 2 ms and leave an odd one out (DECISIONS R4)
abbrev pub time_of : ℕ → ℕ → ℕ
time_of model n = cond (ltb model type_637_plus) (n - n % 2) n

-- the variable is read, and judged by 20, at the first step alone
abbrev pub waits_variable : CommandEffect
waits_variable g c v =
    cond (is_set g.time || within 0 most_time (variable v c.x))
    (flows v (waits (time_of g.drive.model (natural (variable v c.x))) g)) (halts BadContent v)

-- a content is the number of one of these landing blocks
abbrev pub is_landing : List ℕ → ℤ → Bool
is_landing [] z = false
is_landing (a ∷ landings) z = eq_z z (pos a) || is_landing landings z

-- 56 and 5B: on to the landing block that the variable holds; 22 unless it holds one (change request 1)
abbrev pub lands : List ℕ → (ℕ → Outcome) → CommandEffect
lands landings to g c v =
    cond (is_landing landings (variable v c.x)) (flows v (to (natural (variable v c.x)))) (halts NoLanding v)

-- ---- the rows

pub record EffectRow : Type 0 where
  pub code : ℕ
  pub effect : CommandEffect

abbrev pub effect_row : ℕ → CommandEffect → EffectRow
effect_row code effect = record { code = code; effect = effect }

-- motion and parameters
abbrev pub motion_rows : List EffectRow
motion_rows =
    effect_row 0x00 (moves MoveTo) ∷  -- p. 30
    effect_row 0x01 (moves MoveBy) ∷  -- p. 31
    effect_row 0x03 (moves Forward) ∷  -- p. 34
    effect_row 0x04 (moves Backward) ∷  -- p. 35
    effect_row 0x0E (λ g c v. sets (with_mark 1 v)) ∷  -- p. 49
    effect_row 0x0F (λ g c v. effect v (Some (Stop c.x (axis_of first_axis v).deceleration)) GoOn) ∷  -- p. 50
    effect_row 0x1F (λ g c v. effect v (Some (Stop c.x c.word)) GoOn) ∷  -- p. 65
    effect_row 0x20 (λ g c v. sets (with_axis first_axis (with_position c.value (axis_of first_axis v)) v)) ∷  -- p. 66
    effect_row 0x21 (λ g c v. sets (with_axis first_axis (with_speed c.word (axis_of first_axis v)) v)) ∷  -- p. 67
    effect_row 0x22 (λ g c v. sets (with_axis first_axis (with_acceleration c.word (axis_of first_axis v)) v)) ∷  -- p. 68
    effect_row 0x23 (λ g c v. sets (with_axis first_axis (with_deceleration c.word (axis_of first_axis v)) v)) ∷  -- p. 69
    effect_row 0x30 (λ g c v. sets (with_axis first_axis (with_position (variable v c.x) (axis_of first_axis v)) v)) ∷  -- p. 83
    effect_row 0x31 (parameter most_speed with_speed) ∷  -- p. 84
    effect_row 0x32 (parameter most_ramp with_acceleration) ∷  -- p. 85
    effect_row 0x33 (parameter most_ramp with_deceleration) ∷  -- p. 86
    effect_row 0x40 (λ g c v. assigns c (axis_of first_axis v).position v) ∷  -- p. 100
    effect_row 0x41 (λ g c v. assigns c (pos (axis_of first_axis v).speed) v) ∷  -- p. 101
    effect_row 0x42 (λ g c v. assigns c (pos (axis_of first_axis v).acceleration) v) ∷  -- p. 102
    effect_row 0x43 (λ g c v. assigns c (pos (axis_of first_axis v).deceleration) v) ∷  -- p. 103
    []

-- control, with the landing blocks
abbrev pub control_rows : List ℕ → List EffectRow
control_rows landings =
    effect_row 0x50 (λ g c v. sets v) ∷  -- p. 122
    effect_row 0x51 (λ g c v. flows v (cond (eqb c.x 0) Restart End)) ∷  -- p. 123
    effect_row 0x52 (λ g c v. flows v (Call c.word)) ∷  -- p. 124
    effect_row 0x53 (λ g c v. flows v Return) ∷  -- p. 125
    effect_row 0x54 (λ g c v. flows v (Start plc c.word)) ∷  -- p. 126
    effect_row 0x55 (λ g c v. flows v (Jump c.word)) ∷  -- p. 127
    effect_row 0x56 (lands landings Jump) ∷  -- p. 128
    effect_row 0x57 (λ g c v. flows v (Start bias c.word)) ∷  -- p. 129
    effect_row 0x58 (λ g c v. flows v (cond (arrived g v.notes) GoOn (Stay 0 0))) ∷  -- p. 130
    effect_row 0x59 (λ g c v. flows v (waits (2 * c.word) g)) ∷  -- p. 131
    effect_row 0x5A waits_variable ∷  -- p. 132
    effect_row 0x5B (lands landings (Start bias)) ∷  -- p. 133
    []

-- flags and pins, with the levels of the input pins
abbrev pub level_rows : List ℕ → List EffectRow
level_rows inputs =
    effect_row 0x60 (λ g c v. sets (with_flag c.x c.y v)) ∷  -- p. 137
    effect_row 0x61 (λ g c v. jump_if (compares c.y (flag v c.x) c.z) c.word v) ∷  -- p. 138
    effect_row 0x62 (λ g c v. sets (with_flag c.x (flag v c.y) v)) ∷  -- p. 139
    effect_row 0x63 (λ g c v. sets (with_flag c.x (input_at inputs c.y) v)) ∷  -- p. 140
    effect_row 0x64 (λ g c v. sets (with_flag c.x (output v c.y) v)) ∷  -- p. 141
    effect_row 0x65 (λ g c v. sets (with_flag c.x (bit (is_set (flag v c.y) && is_set (flag v c.z))) v)) ∷  -- p. 142
    effect_row 0x66 (λ g c v. sets (with_flag c.x (bit (is_set (flag v c.y) || is_set (flag v c.z))) v)) ∷  -- p. 143
    effect_row 0x67 (λ g c v. sets (with_flag c.x (bit (not (eqb (flag v c.y) (flag v c.z)))) v)) ∷  -- p. 144
    effect_row 0x68 (λ g c v. sets (with_flag c.x (bit (not (is_set (flag v c.y)))) v)) ∷  -- p. 145
    effect_row 0x6E (λ g c v. jump_if (compares c.z (bit (bit_at w32 c.y (variable v c.x))) 0) c.word v) ∷  -- p. 151
    effect_row 0x70 (λ g c v. jump_if (compares c.y (input_at inputs c.x) c.z) c.word v) ∷  -- p. 154
    effect_row 0x71 (λ g c v. jump_if (compares c.y (output v c.x) c.z) c.word v) ∷  -- p. 156
    effect_row 0x72 (λ g c v. sets (with_output c.x c.y v)) ∷  -- p. 158
    effect_row 0x73 (λ g c v. sets (with_output c.x (flag v c.y) v)) ∷  -- p. 159
    []

-- variables
abbrev pub variable_rows : List EffectRow
variable_rows =
    effect_row 0x80 (λ g c v. assigns c c.value v) ∷  -- p. 167
    effect_row 0x81 (λ g c v. jump_if (holds c.y (variable v c.x) c.value) c.word v) ∷  -- p. 168
    effect_row 0x82 (λ g c v. assigns c (wrap w32 (variable v c.y +ℤ c.value)) v) ∷  -- p. 170
    effect_row 0x83 (λ g c v. assigns c (wrap w32 (variable v c.y -ℤ c.value)) v) ∷  -- p. 171
    effect_row 0x84 (λ g c v. assigns c (wrap w32 (variable v c.y *ℤ c.value)) v) ∷  -- p. 172
    effect_row 0x85 (λ g c v. divides c (quotient (variable v c.y) c.value) v) ∷  -- p. 173
    effect_row 0x86 (λ g c v. assigns c (wrap w32 (pos (flag_number v.cells.flags c.y c.z))) v) ∷  -- p. 174
    effect_row 0x88 (λ g c v. assigns c (variable v c.y) v) ∷  -- p. 176
    effect_row 0x89 (λ g c v. jump_if (holds c.y (variable v c.x) (variable v c.z)) c.word v) ∷  -- p. 177
    effect_row 0x8A (λ g c v. assigns c (wrap w32 (variable v c.y +ℤ variable v c.z)) v) ∷  -- p. 179
    effect_row 0x8B (λ g c v. assigns c (wrap w32 (variable v c.y -ℤ variable v c.z)) v) ∷  -- p. 180
    effect_row 0x8C (λ g c v. assigns c (wrap w32 (variable v c.y *ℤ variable v c.z)) v) ∷  -- p. 181
    effect_row 0x8D (λ g c v. divides c (quotient (variable v c.y) (variable v c.z)) v) ∷  -- p. 182
    []

-- mathematics
abbrev pub mathematics_rows : List EffectRow
mathematics_rows =
    effect_row 0x90 (λ g c v. flows v (Start mathematics c.word)) ∷  -- p. 185
    []

-- all of them, with these input levels and landing blocks
abbrev pub effect_rows : List ℕ → List ℕ → List EffectRow
effect_rows inputs landings = motion_rows ++ (control_rows landings ++ (level_rows inputs ++ (variable_rows ++ mathematics_rows)))

-- a code that is not carried does nothing: the task stays
abbrev pub nothing : CommandEffect
nothing g c v = flows v (Stay 0 0)

unfoldable pub effect_in : List EffectRow → ℕ → CommandEffect
effect_in [] code = nothing
effect_in (r ∷ rs) code = cond (eqb code r.code) r.effect (effect_in rs code)

-- what a command does
unfoldable pub effect_of : List ℕ → List ℕ → CommandEffect
effect_of inputs landings g c v = effect_in (effect_rows inputs landings) c.code g c v

-- The commands carried, one row for each code: document 01, "The commands carried", change request 1 (56, 5B), and chapters 3 and 4 of 000. A row says where
-- the operands stand behind the code byte, what the drive must have (6, 23), which ranges the operands have (7), which tasks may use the command (9; the boxes
-- of chapter 3), and what it may continue with. The columns but the tasks are enums (src/lib.rt says each case), given their meaning where they are used, case
-- by case.
use Rattle.std.specs.Prelude.{ℕ, ◌+◌, Bool, true, false, cond, List, [], ◌∷◌, eqb}
use Rattle.command_table.specs.declared.Row.{Row}
use Rattle.command_table.specs.declared.Layout.{Layout}
use Rattle.command_table.specs.declared.Layout.TheVariants.{Bare, Byte, Word, Pair, Triple, TripleWord, ByteWord, Value, ByteValue, PairValue, ValueJump}
use Rattle.command_table.specs.declared.Device.{Device}
use Rattle.command_table.specs.declared.Device.TheVariants.{NoDevice, InputX, InputY, OutputReadX, OutputReadY, OutputWrittenX, Not637Plus}
use Rattle.command_table.specs.declared.Ranges.{Ranges}
use Rattle.command_table.specs.declared.Ranges.TheVariants.{Any, Address, Mode, Level, LevelJump, BitJump, ConditionJump, Divisor, FlagRun}
use Rattle.command_table.specs.declared.Ranges.TheVariants.{AxisTarget, ModeAxis, ModeRamp, Speed, Ramp}
use Rattle.command_table.specs.declared.FlowKind.{FlowKind}
use Rattle.command_table.specs.declared.FlowKind.TheVariants.{Nothing, Next, Wait, Jump, Branch, Call, Return, StartBias, StartPlc, StartMathematics}
use Rattle.command_table.specs.declared.FlowKind.TheVariants.{Ending, ComputedJump, ComputedStartBias}

-- ---- tasks: 1 for BIAS, 2 for the PLC, 4 for mathematics, added

abbrev pub B : ℕ
B = 1

abbrev pub P : ℕ
P = 2

abbrev pub M : ℕ
M = 4

abbrev pub BP : ℕ
BP = B + P

abbrev pub BM : ℕ
BM = B + M

abbrev pub PM : ℕ
PM = P + M

abbrev pub BPM : ℕ
BPM = B + P + M

-- ---- flows: which one is that of an end

abbrev pub is_ending : FlowKind → Bool
is_ending Ending = true
is_ending Nothing = false
is_ending Next = false
is_ending Wait = false
is_ending Jump = false
is_ending Branch = false
is_ending Call = false
is_ending Return = false
is_ending StartBias = false
is_ending StartPlc = false
is_ending StartMathematics = false
is_ending ComputedJump = false
is_ending ComputedStartBias = false

-- ---- the rows

-- the columns of a row
abbrev pub facts : Layout → Device → Ranges → ℕ → FlowKind → Row
facts layout device ranges tasks flow = record { carried = true; layout = layout; device = device; ranges = ranges; tasks = tasks; flow = flow }

-- a row with its code
pub record Coded : Type 0 where
  pub code : ℕ
  pub columns : Row

abbrev pub row : ℕ → Layout → Device → Ranges → ℕ → FlowKind → Coded
row code layout device ranges tasks flow = record { code = code; columns = facts layout device ranges tasks flow }

-- behind each row: its page in 000, and its meaning in the operands x, y, z, word, value that the layout has
unfoldable pub rows : List Coded
rows =
    -- motion
    row 0x00 Pair NoDevice AxisTarget B Wait ∷  -- p. 30: move to the stored position
    row 0x01 Pair NoDevice AxisTarget B Wait ∷  -- p. 31: move by the stored position
    row 0x03 Pair NoDevice AxisTarget B Wait ∷  -- p. 34: endless forward
    row 0x04 Pair NoDevice AxisTarget B Wait ∷  -- p. 35: endless backward
    row 0x0E Bare NoDevice Any B Next ∷  -- p. 49: set the start mark
    row 0x0F Pair NoDevice ModeAxis BP Next ∷  -- p. 50: stop, mode x
    row 0x1F ByteWord NoDevice ModeRamp BP Next ∷  -- p. 65: stop, mode x, with the deceleration in word (boxes: DECISIONS R1)
    -- parameters
    row 0x20 Value NoDevice Any B Next ∷  -- p. 66: position = value
    row 0x21 Word NoDevice Speed B Next ∷  -- p. 67: speed = word
    row 0x22 Word NoDevice Ramp B Next ∷  -- p. 68: acceleration = word
    row 0x23 Word NoDevice Ramp B Next ∷  -- p. 69: deceleration = word
    row 0x30 Byte NoDevice Any B Next ∷  -- p. 83: position = variable x
    row 0x31 Byte NoDevice Any B Next ∷  -- p. 84: speed = variable x
    row 0x32 Byte NoDevice Any B Next ∷  -- p. 85: acceleration = variable x
    row 0x33 Byte NoDevice Any B Next ∷  -- p. 86: deceleration = variable x
    row 0x40 Byte NoDevice Any BPM Next ∷  -- p. 100: variable x = position
    row 0x41 Byte NoDevice Any BPM Next ∷  -- p. 101: variable x = speed
    row 0x42 Byte NoDevice Any BPM Next ∷  -- p. 102: variable x = acceleration
    row 0x43 Byte NoDevice Any BPM Next ∷  -- p. 103: variable x = deceleration
    -- control
    row 0x50 Bare NoDevice Any BPM Next ∷  -- p. 122: no operation
    row 0x51 Byte NoDevice Mode BPM Ending ∷  -- p. 123: end, mode x (DECISIONS R2)
    row 0x52 Word NoDevice Address BPM Call ∷  -- p. 124: call the sub-program at word
    row 0x53 Bare NoDevice Any BPM Return ∷  -- p. 125: return from a sub-program
    row 0x54 Word NoDevice Address BM StartPlc ∷  -- p. 126: start the PLC at word
    row 0x55 Word NoDevice Address BPM Jump ∷  -- p. 127: jump to word
    row 0x56 Byte NoDevice Any BPM ComputedJump ∷  -- p. 128: jump to the block that variable x holds (change request 1)
    row 0x57 Word NoDevice Address PM StartBias ∷  -- p. 129: start BIAS at word
    row 0x58 Bare NoDevice Any B Wait ∷  -- p. 130: wait for position reached
    row 0x59 Word NoDevice Any B Wait ∷  -- p. 131: wait for a time of word x 2 ms (DECISIONS R3)
    row 0x5A Byte NoDevice Any B Wait ∷  -- p. 132: wait for a time of variable x ms (DECISIONS R4)
    row 0x5B Byte NoDevice Any PM ComputedStartBias ∷  -- p. 133: start BIAS at the block that variable x holds (change request 1)
    -- flags
    row 0x60 Pair NoDevice Level BPM Next ∷  -- p. 137: flag x = y
    row 0x61 TripleWord NoDevice LevelJump BPM Branch ∷  -- p. 138: jump to word if flag x compares by y with z
    row 0x62 Pair NoDevice Any BPM Next ∷  -- p. 139: flag x = flag y
    row 0x63 Pair InputY Any BPM Next ∷  -- p. 140: flag x = input y
    row 0x64 Pair OutputReadY Any BPM Next ∷  -- p. 141: flag x = output y
    row 0x65 Triple NoDevice Any BPM Next ∷  -- p. 142: flag x = flag y and flag z
    row 0x66 Triple NoDevice Any BPM Next ∷  -- p. 143: flag x = flag y or flag z
    row 0x67 Triple NoDevice Any BPM Next ∷  -- p. 144: flag x = flag y exclusive or flag z
    row 0x68 Pair NoDevice Any BPM Next ∷  -- p. 145: flag x = not flag y
    row 0x6E TripleWord Not637Plus BitJump BPM Branch ∷  -- p. 151: jump to word if bit y of variable x compares by z with 0 (R5a, R5b)
    -- pins
    row 0x70 TripleWord InputX LevelJump BPM Branch ∷  -- p. 154: jump to word if input x compares by y with z
    row 0x71 TripleWord OutputReadX LevelJump BPM Branch ∷  -- p. 156: jump to word if output x compares by y with z
    row 0x72 Pair OutputWrittenX Level BPM Next ∷  -- p. 158: output x = y
    row 0x73 Pair OutputWrittenX Any BPM Next ∷  -- p. 159: output x = flag y (pins of 72: DECISIONS R12)
    -- variables
    row 0x80 ByteValue NoDevice Any BPM Next ∷  -- p. 167: variable x = value
    row 0x81 ValueJump NoDevice ConditionJump BPM Branch ∷  -- p. 168: jump to word if variable x compares by y with value
    row 0x82 PairValue NoDevice Any BPM Next ∷  -- p. 170: variable x = variable y + value
    row 0x83 PairValue NoDevice Any BPM Next ∷  -- p. 171: variable x = variable y - value
    row 0x84 PairValue NoDevice Any BPM Next ∷  -- p. 172: variable x = variable y * value
    row 0x85 PairValue NoDevice Divisor BPM Next ∷  -- p. 173: variable x = variable y / value
    row 0x86 Triple NoDevice FlagRun BP Next ∷  -- p. 174: variable x = z flags from flag y on (DECISIONS R13b)
    row 0x88 Pair NoDevice Any BPM Next ∷  -- p. 176: variable x = variable y
    row 0x89 TripleWord NoDevice ConditionJump BPM Branch ∷  -- p. 177: jump to word if variable x compares by y with variable z
    row 0x8A Triple NoDevice Any BPM Next ∷  -- p. 179: variable x = variable y + variable z
    row 0x8B Triple NoDevice Any BPM Next ∷  -- p. 180: variable x = variable y - variable z
    row 0x8C Triple NoDevice Any BPM Next ∷  -- p. 181: variable x = variable y * variable z
    row 0x8D Triple NoDevice Any BPM Next ∷  -- p. 182: variable x = variable y / variable z
    -- mathematics
    row 0x90 Word NoDevice Address BP StartMathematics ∷  -- p. 185: start mathematics at word
    []

-- a code that is not carried: no operands, no task, nothing to continue with
abbrev pub no_row : Row
no_row = record { carried = false; layout = Bare; device = NoDevice; ranges = Any; tasks = 0; flow = Nothing }

unfoldable pub row_in : List Coded → ℕ → Row
row_in [] code = no_row
row_in (r ∷ rs) code = cond (eqb code r.code) r.columns (row_in rs code)

unfoldable pub row_of : ℕ → Row
row_of code = row_in rows code

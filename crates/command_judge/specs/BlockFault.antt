-- A block judged for the drive and the block count of a header: 5, then 6 or 23, then 7, then 8 (document 01, "Refused because of the input";
-- change request 3 splits 23 off 6). Which device and which ranges a code asks for stands in its row.
use Rattle.std.specs.Prelude.{ℕ, ◌+◌, Bool, true, ◌&&◌, not, cond, List, eqb, ltb, leb, pos, Result, Ok, Err}
use Rattle.limits.specs.Limits.{cells, most_level, most_run, most_speed, most_ramp, up_to}
use Rattle.num_arith.specs.Ops.{eq_z}
use Rattle.drive.specs.Types.{type_637_plus}
use Rattle.drive.specs.Pins.{pin_of}
use Rattle.drive.specs.declared.Drive.{Drive}
use Rattle.drive_pins.specs.declared.PinKind.TheVariants.{Input, OutputWritten, OutputRead}
use Rattle.drive.specs.Types.{Presence}
use Rattle.drive.specs.declared.Absence.{Absence}
use Rattle.drive.specs.declared.Absence.TheVariants as presence
use Rattle.image_header.specs.declared.Header.{Header}
use Rattle.command_table.specs.Rows.{row_of}
use Rattle.command_table.specs.declared.Row.{Row}
use Rattle.command_table.specs.declared.Device.{Device}
use Rattle.command_table.specs.declared.Device.TheVariants.{NoDevice, InputX, InputY, OutputReadX, OutputReadY, OutputWrittenX, Not637Plus}
use Rattle.command_table.specs.declared.Ranges.{Ranges}
use Rattle.command_table.specs.declared.Ranges.TheVariants.{Any, Address, Mode, Level, LevelJump, BitJump, ConditionJump, Divisor, FlagRun}
use Rattle.command_table.specs.declared.Ranges.TheVariants.{AxisTarget, ModeAxis, ModeRamp, Speed, Ramp}
use Rattle.command_operands.specs.Operands.{byte_at, laid_out, unused_zero}
use Rattle.command_operands.specs.declared.Command.{Command}
use Rattle.command_judge.specs.declared.BlockFault.{BlockFault}
use Rattle.command_judge.specs.declared.BlockFault.TheVariants.{NotCarried, NotOnDrive, BoardMissing, OutOfRange, NotZero}

-- what judging a block comes to
abbrev pub BlockResult : Type 0
BlockResult = Result (Unit {0}) BlockFault

-- ---- 6 and 23: what the drive must have, by the row's device

abbrev pub not_on_637_plus : Drive → Presence
not_on_637_plus d = cond (eqb d.model type_637_plus) (Err presence.Never) (Ok tt)

-- whether the drive has it, for the operands x and y
abbrev pub device_presence : Device → Drive → ℕ → ℕ → Presence
device_presence NoDevice d x y = Ok tt
device_presence InputX d x y = pin_of d Input x
device_presence InputY d x y = pin_of d Input y
device_presence OutputReadX d x y = pin_of d OutputRead x
device_presence OutputReadY d x y = pin_of d OutputRead y
device_presence OutputWrittenX d x y = pin_of d OutputWritten x
device_presence Not637Plus d x y = not_on_637_plus d

-- ---- 7: the operands' ranges, by the row's ranges

-- 0 equal, 1 unequal: the conditions of 61, 6E, 70, 71
abbrev pub most_equality : ℕ
most_equality = 1

-- modes of 51
abbrev pub most_mode : ℕ
most_mode = 3

-- modes of 0F and 1F
abbrev pub most_stop : ℕ
most_stop = 1

-- bits of a variable
abbrev pub most_bit : ℕ
most_bit = 31

-- conditions of 81 and 89
abbrev pub most_condition : ℕ
most_condition = 7

abbrev pub level_jump : ℕ → ℕ → ℕ → ℕ → Bool
level_jump count y z word = leb y most_equality && (leb z most_level && ltb word count)

abbrev pub bit_jump : ℕ → ℕ → ℕ → ℕ → Bool
bit_jump count y z word = leb y most_bit && (leb z most_equality && ltb word count)

abbrev pub condition_jump : ℕ → ℕ → ℕ → Bool
condition_jump count y word = leb y most_condition && ltb word count

abbrev pub flag_run : ℕ → ℕ → Bool
flag_run y z = up_to most_run z && leb (y + z) cells

abbrev pub axis_target : ℕ → ℕ → Bool
axis_target x y = eqb x 0 && eqb y 0

abbrev pub mode_axis : ℕ → ℕ → Bool
mode_axis x y = leb x most_stop && eqb y 0

abbrev pub mode_ramp : ℕ → ℕ → Bool
mode_ramp x word = leb x most_stop && up_to most_ramp word

-- whether the operands of a command are in range, in an image of `count` blocks
abbrev pub in_range : Ranges → ℕ → Command → Bool
in_range Any count c = true
in_range Address count c = ltb c.word count
in_range Mode count c = leb c.x most_mode
in_range Level count c = leb c.y most_level
in_range LevelJump count c = level_jump count c.y c.z c.word
in_range BitJump count c = bit_jump count c.y c.z c.word
in_range ConditionJump count c = condition_jump count c.y c.word
in_range Divisor count c = not (eq_z c.value (pos 0))
in_range FlagRun count c = flag_run c.y c.z
in_range AxisTarget count c = axis_target c.x c.y
in_range ModeAxis count c = mode_axis c.x c.y
in_range ModeRamp count c = mode_ramp c.x c.word
in_range Speed count c = up_to most_speed c.word
in_range Ramp count c = up_to most_ramp c.word

-- ---- the block

-- document 01's number, and change request 3's
abbrev pub block_fault_number : BlockResult → ℕ
block_fault_number (Ok _) = 0
block_fault_number (Err NotCarried) = 5
block_fault_number (Err NotOnDrive) = 6
block_fault_number (Err BoardMissing) = 23
block_fault_number (Err OutOfRange) = 7
block_fault_number (Err NotZero) = 8

-- 7, then 8: the operands c of a block b whose code has the row r, in an image of `count` blocks
unfoldable pub operand_fault : Row → ℕ → List ℕ → Command → BlockResult
operand_fault r count b c = cond (in_range r.ranges count c) (cond (unused_zero r.layout b) (Ok tt) (Err NotZero)) (Err OutOfRange)

-- 23 where a board that the type may carry has the pin, 6 where the type never has it
abbrev pub absence_fault : Absence → BlockFault
absence_fault presence.BoardMissing = BoardMissing
absence_fault presence.Never = NotOnDrive

-- that, and else what comes after it
abbrev pub if_present : Presence → BlockResult → BlockResult
if_present (Ok _) later = later
if_present (Err absence) later = Err (absence_fault absence)

unfoldable pub command_fault : Row → Header → List ℕ → Command → BlockResult
command_fault r h b c = if_present (device_presence r.device h.drive c.x c.y) (operand_fault r h.count b c)

-- by its code's row
unfoldable pub row_fault : Row → Header → List ℕ → BlockResult
row_fault r h b = cond r.carried (command_fault r h b (laid_out r.layout b)) (Err NotCarried)

unfoldable pub block_fault : Header → List ℕ → BlockResult
block_fault h b = row_fault (row_of (byte_at b 0)) h b

-- Closed facts of the history of a walk, since no verdict depends on it: of two starts the latest counts, and BIAS returns to the program start
-- whatever a 57 named.
use mathlib.Core.Path.{◌≡◌, refl}
use mathlib.Core.List.{List, [], ◌∷◌}
use Prim.Native.Nat.{ℕ}
use Rattle.limits.specs.Limits.{bias, plc, mathematics}
use Rattle.image_header.specs.declared.Header.{Header}
use Rattle.command_table.specs.Rows.{row_of, row_in, rows}
use Rattle.command_operands.specs.Operands.{operands}
use Rattle.walk_flow.specs.Terms.{Terms, under}
use Rattle.walk_point.specs.PointFault.{point}
use Rattle.walk_point.specs.declared.Point.{Point}
use Rattle.walk.specs.Blocks.{command_at}
use Rattle.walk.specs.Walk.{Named, latest, start_of}

-- a block that names another in D1 and D2, before others
abbrev pub naming : ℕ → ℕ → List ℕ → List ℕ
naming code word rest = code ∷ word ∷ 0 ∷ 0 ∷ 0 ∷ 0 ∷ 0 ∷ 0 ∷ rest

-- blocks 0 and 1 start the PLC, 2 and 3 mathematics, 4 BIAS, at 10 to 14, and 5 starts BIAS at the landing block
abbrev pub program : List ℕ
program = naming 0x54 10 (naming 0x54 11 (naming 0x90 12 (naming 0x90 13 (naming 0x57 14 (naming 0x5B 3 [])))))

abbrev pub header : Header
header = record { format = 2; drive = record { model = 2; b = 0; c = 0 }; start = 7; count = 20; landings = 1 }

abbrev pub terms : Terms
terms = under header (15 ∷ [])

-- the path passed blocks 0 to 5 in order: the latest stands first
abbrev pub path : List Point
path = point 1 5 0 ∷ point 0 4 0 ∷ point 0 3 0 ∷ point 0 2 0 ∷ point 0 1 0 ∷ point 0 0 0 ∷ []

pub plc_latest : start_of terms program plc path ≡ Named.at 11
unfolding start_of latest command_at operands row_of row_in rows
plc_latest = refl

pub mathematics_latest : start_of terms program mathematics path ≡ Named.at 13
unfolding start_of latest command_at operands row_of row_in rows
mathematics_latest = refl

pub bias_start : start_of terms program bias path ≡ Named.at 7
unfolding start_of latest command_at operands row_of row_in rows
bias_start = refl

-- a task that no command of the path started has no start
pub no_start : start_of terms program plc (point 0 3 0 ∷ point 0 2 0 ∷ []) ≡ Named.none
unfolding start_of latest command_at operands row_of row_in rows
no_start = refl

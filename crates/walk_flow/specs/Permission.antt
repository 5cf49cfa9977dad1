-- Which task may execute a command: 7 for a 51 that ends another task, and the boxes of 9 (document 01, "Refused because of the input").
use Rattle.std.specs.Prelude.{ℕ, ◌+◌, ◌/◌, ◌%◌, Bool, false, ◌&&◌, not, List, [], ◌∷◌, eqb, get_or}
use Rattle.command_table.specs.Rows.{B, P, M, is_ending, row_of}
use Rattle.command_operands.specs.declared.Command.{Command}
use Rattle.walk_flow.specs.Terms.{Terms}

-- 7: a 51 whose mode names another task than the one that executes it; modes 1, 2 and 3 name BIAS, the PLC and mathematics, mode 0 none
unfoldable pub foreign : ℕ → Command → Bool
foreign task c = is_ending (row_of c.code).flow && (not (eqb c.x 0) && not (eqb c.x (task + 1)))

-- 9: the boxes of chapter 3, by task, from the number in the row; there is no task above mathematics
abbrev pub boxes : ℕ → List Bool
boxes tasks = eqb (tasks / B % 2) 1 ∷ eqb (tasks / P % 2) 1 ∷ eqb (tasks / M % 2) 1 ∷ []

unfoldable pub permitted : Terms → ℕ → ℕ → Bool
permitted terms code task = get_or (boxes (row_of code).tasks) task false

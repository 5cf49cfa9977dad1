-- What a change makes of the values: a command changes at most one cell, the parameters of an axis, or the start mark (document 01, "Running").
use Rattle.std.specs.Prelude.{ℕ, List, set, ℤ, Option, Some, None}
use Rattle.state.specs.declared.Cells.{Cells}
use Rattle.state.specs.declared.Change.{Change}
use Rattle.state.specs.declared.Change.TheVariants.{Variable, Flag, Output, Parameters, Mark}
use Rattle.state.specs.declared.Motion.{Motion}
use Rattle.state.specs.declared.Notes.{Notes}
use Rattle.state.specs.declared.Values.{Values}

-- values of these parts
abbrev pub cells_of : List ℤ → List ℕ → List ℕ → Cells
cells_of variables flags outputs = record { variables = variables; flags = flags; outputs = outputs }

abbrev pub values_of : Cells → Motion → Notes → Values
values_of cells motion notes = record { cells = cells; motion = motion; notes = notes }

abbrev pub cells_after : Option Change → Cells → Cells
cells_after None c = c
cells_after (Some (Variable i z)) c = cells_of (set c.variables i z) c.flags c.outputs
cells_after (Some (Flag i x)) c = cells_of c.variables (set c.flags i x) c.outputs
cells_after (Some (Output i x)) c = cells_of c.variables c.flags (set c.outputs i x)
cells_after (Some (Parameters n a)) c = c
cells_after (Some (Mark m)) c = c

-- there is one axis, and any number sets it
abbrev pub motion_after : Option Change → Motion → Motion
motion_after None o = o
motion_after (Some (Variable i z)) o = o
motion_after (Some (Flag i x)) o = o
motion_after (Some (Output i x)) o = o
motion_after (Some (Parameters n a)) o = record { axis = a; mark = o.mark }
motion_after (Some (Mark m)) o = record { axis = o.axis; mark = m }

-- no change is of the notes: a step takes them
abbrev pub changed : Option Change → Values → Values
changed change v = values_of (cells_after change v.cells) (motion_after change v.motion) v.notes

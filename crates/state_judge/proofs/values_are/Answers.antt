-- `values_are` meets its contract, part by part.
use Rattle.state_judge.proofs.values_are.Goals as goal

pub returns : goal.returns
returns c = rw (
  c.notes_are.ensures,
  c.notes_in.ensures,
  c.motion_is.ensures,
  c.motion_in.ensures,
  c.levels_are-2.ensures,
  c.levels_are.ensures,
)

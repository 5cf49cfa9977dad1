-- `state_is` meets its contract, part by part.
use Rattle.state_layout.specs.IsState.{state_is}
use Rattle.state_layout.specs.Layout.{decoded}
use Rattle.state_judge.proofs.Landings.{and_true}
use Rattle.state_judge.proofs.state_is.Goals as goal

pub returns : goal.returns
unfolding state_is decoded
returns c = rw (
  c.tasks_are.ensures,
  c.tasks_in.ensures,
  c.values_are.ensures,
  c.landings_are.ensures,
  c.accepts.ensures,
  c.header_in-header.ensures,
  ← and_true,
)

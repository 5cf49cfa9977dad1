-- `State::fresh` meets its contract: its parts are the definition's.
use Rattle.state.specs.State.{fresh}
use Rattle.state.proofs.State.fresh.Goals as goal

pub returns : goal.returns
unfolding fresh
returns c = rw (c.fresh.ensures, c.running-bias.ensures, c.never_started-idle.ensures)

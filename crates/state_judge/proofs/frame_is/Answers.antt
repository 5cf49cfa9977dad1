-- `frame_is` meets its contract, test by test.
use Rattle.state_layout.specs.IsState.{frame_is}
use Rattle.state_judge.proofs.frame_is.Goals as goal

pub returns : goal.returns
unfolding frame_is
returns c = rw (c.unused_zero.ensures, c.byte.ensures)

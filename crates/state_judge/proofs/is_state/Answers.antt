-- `is_state` meets its contract: the length, then the rest.
use lib.ListN.{length}
use borrow.Author.Tests.{eq-eqb, ne_eqb}
use Rattle.limits.specs.Limits.{state_length}
use Rattle.state_layout.specs.IsState.{is_state}
use Rattle.state_judge.proofs.is_state.Goals as goal

pub returns-in-Some : goal.returns-in-Some
unfolding is_state
returns-in-Some c =
    let w = c.in-Some.ensures.cases in rw (eq-eqb (length c.args.b.now) state_length w.long, c.state_is.ensures, c.frame_is.ensures, w.same)

pub returns-in-None : goal.returns-in-None
unfolding is_state
returns-in-None c = rw (ne_eqb _ _ c.in-None.ensures.cases)

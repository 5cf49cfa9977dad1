-- `Values::fresh` meets its contract: the fields are the definition's.
use mathlib.Core.Path.{refl}
use Rattle.state.specs.State.{fresh_values}
use Rattle.state.proofs.Values.fresh.Goals as goal

pub returns : goal.returns
unfolding fresh_values
returns c = refl

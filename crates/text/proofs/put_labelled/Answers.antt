-- Two puts, one behind the other.
use Rattle.text.proofs.Joined.{and_then}
use Rattle.text.proofs.put_labelled.Goals as goal

pub returns : goal.returns
returns c = and_then c.put-behind.ensures c.put_decimal.ensures

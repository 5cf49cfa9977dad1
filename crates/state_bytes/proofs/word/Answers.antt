-- `state_bytes::word` meets its contract: the number of two bytes, low byte first.
use Rattle.state_bytes.proofs.word.Goals as goal

pub returns : goal.returns
returns c = c.read_u16.ensures

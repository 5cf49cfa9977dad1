-- `state_bytes::long` meets its contract: the number of four bytes, low byte first.
use Rattle.state_bytes.proofs.long.Goals as goal

pub returns : goal.returns
returns c = c.read_u32.ensures

-- `state_bytes::put_word` meets its contract: one byte put after the other.
use mathlib.Core.Path.{refl}
use native.Mathlib.Omega.{arith}
use lib.ListN.{length-set}
use Rattle.state_bytes.proofs.Puts.{two}
use Rattle.state_bytes.proofs.put_word.Goals as goal

pub bounds-s-at-2 : goal.bounds-s-at-2
bounds-s-at-2 c = simp length-set (omega arith)

pub returns : goal.returns
returns c = two c.args.s.now _ _ _ c.args.at _ c.put_u16-b.ensures refl refl

-- `state_bytes::put_long` meets its contract: one byte put after the other.
use mathlib.Core.Path.{refl}
use native.Mathlib.Omega.{arith}
use lib.ListN.{length-set}
use Rattle.state_bytes.proofs.Puts.{four}
use Rattle.state_bytes.proofs.put_long.Goals as goal

pub bounds-s-at-2 : goal.bounds-s-at-2
bounds-s-at-2 c = simp length-set (omega arith)

pub bounds-s-at-3 : goal.bounds-s-at-3
bounds-s-at-3 c = simp length-set (omega arith)

pub bounds-s-at-4 : goal.bounds-s-at-4
bounds-s-at-4 c = simp length-set (omega arith)

pub returns : goal.returns
returns c = four c.args.s.now _ _ _ _ _ c.args.at _ c.put_u32-b.ensures refl refl refl refl

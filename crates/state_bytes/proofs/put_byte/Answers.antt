-- `state_bytes::put_byte` meets its contract: a byte is its own number of one byte.
use mathlib.Core.Path.{◌≡◌, ap}
use Prim.Native.Nat.{◌%◌}
use native.Mathlib.Omega.{arith}
use lib.ListN.{set}
use Rattle.state_bytes.specs.Bytes.{puts}
use Rattle.state_bytes.proofs.put_byte.Goals as goal

pub returns : goal.returns
unfolding puts
returns c = let e : c.args.v ≡ c.args.v % 256 = omega arith in ap (set c.args.s.now c.args.at) e

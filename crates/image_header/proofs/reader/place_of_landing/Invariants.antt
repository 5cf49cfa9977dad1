-- `image_header::reader::place_of_landing` meets its contract: after j turns the bytes of the first j landing blocks are counted behind the header's.
use mathlib.Core.Path.{◌≡◌}
use Prim.Native.Nat.{◌+◌, ◌*◌, ◌≤◌}
use Rattle.image_header.proofs.Beside.{landing_bytes}
use Rattle.image_header.proofs.reader.place_of_landing.Given as goal

abbrev pub invariant-loop-block : goal.invariant-loop-block
invariant-loop-block l = (l.at ≡ l.initial.at + landing_bytes l.landings l.block-index) × (landing_bytes l.landings l.block-index ≤ 2 * l.block-index)

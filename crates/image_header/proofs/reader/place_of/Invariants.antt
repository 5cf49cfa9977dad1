-- `image_header::reader::place_of` meets its contract: after j turns the bytes of those of the first j numbers that stand are counted, two at most for each.
use mathlib.Core.Path.{◌≡◌}
use Prim.Native.Nat.{◌*◌, ◌≤◌}
use Rattle.image_header.specs.Scan.{stands_at}
use Rattle.image_header.proofs.reader.place_of.Given as goal

abbrev pub invariant-loop-j : goal.invariant-loop-j
invariant-loop-j l = (l.at ≡ stands_at l.n l.j) × (l.at ≤ 2 * l.j)

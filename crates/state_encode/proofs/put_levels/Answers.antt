-- `state_encode::put_levels` meets its contract: a part of the buffer is written over.
use mathlib.Core.Path.{ap, ◌∙◌}
use Prim.Native.Nat.{◌+◌, ◌-◌}
use native.Mathlib.Omega.{arith}
use lib.ListN.{length}
use borrow.Rule.Slice.PartMut.{put_mid}
use Rattle.state_bytes.proofs.Puts.{puts_part}
use Rattle.state_encode.proofs.put_levels.Goals as goal

pub returns : goal.returns
returns c =
    let a = c.args in
    let n = length a.levels.now in
    ap (put_mid a.at (a.at + n - a.at) a.b.now) c.copy_from_slice.ensures.after ∙ puts_part a.b.now a.at (a.at + n - a.at) a.levels.now (omega arith) c.requires

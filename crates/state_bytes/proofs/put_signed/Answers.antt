-- `state_bytes::put_signed` meets its contract: the bytes are those of the pattern.
use mathlib.Core.Path.{ap, ◌∙◌}
use Prim.Native.Nat.{ℕ}
use mir.Syntax.{w32}
use mir.Facts.{to_z-of_z}
use Rattle.num_arith.specs.Wrap.{word}
use Rattle.num_le.specs.LittleEndian.{le_bytes}
use Rattle.state_bytes.specs.Bytes.{puts}
use Rattle.state_bytes.proofs.put_signed.Goals as goal

pub returns : goal.returns
returns c =
    c.put_long.ensures ∙ ap (λ (u : ℕ). puts c.args.s.now c.args.at (le_bytes 4 u)) (c.pattern.ensures
    ∙ ap (word w32) (to_z-of_z c.ranges.v))

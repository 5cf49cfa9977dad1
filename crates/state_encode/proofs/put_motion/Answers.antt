-- `state_encode::put_motion` meets its contract: one number put behind the other.
use Prim.Native.Nat.{◌<◌}
use native.Mathlib.Omega.{arith}
use mathlib.Core.Path.{refl, ap, ◌∙◌}
use lib.IntN.{ℤ}
use lib.Signed.{mag}
use mir.Syntax.{w32}
use mir.Facts.{to_z-of_z}
use Rattle.state_bytes.specs.Bytes.{puts, signed_bytes}
use Rattle.state_sections.proofs.Sections.{put, done}
use Rattle.state_sections.proofs.Records.{record_put}
use Rattle.state_layout.specs.Codecs.{motion_widths, motion_record}
use Rattle.state_layout.specs.Layout.{motion_at}
use Rattle.state_encode.proofs.put_motion.Goals as goal

pub returns : goal.returns
returns c =
    let m = c.args.motion in
    let f : mag m.axis.position < 2147483648 = omega arith in
    let z = to_z-of_z {w = w32} {z = m.axis.position} (record { sfits = f }) in
    let p = c.put_signed.ensures ∙ ap (λ (y : ℤ). puts c.args.b.now motion_at (signed_bytes y)) z in
    record_put motion_widths (motion_record m) motion_at refl
    (put p
    (put c.put_word.ensures
    (put c.put_word-2.ensures
    (put c.put_word-3.ensures
    (put c.put_byte.ensures
    done)))))

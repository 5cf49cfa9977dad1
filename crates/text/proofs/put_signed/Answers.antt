-- By its sign, the number's text is the digits of its distance from 0, or these behind a minus.
use Rattle.std.specs.Prelude.{unsigned_abs}
use Rattle.std.proofs.Common.{◌≡◌, ap, ◌∙◌, arith}
use Rattle.std.proofs.lemmas.Int.{ints}
use mir.Facts.{to_z-of_z}
use Rattle.text.proofs.Joined.{and_then}
use Rattle.text.proofs.Read.{signed_high, signed_low}
use Rattle.text.proofs.put_signed.Goals as goal

pub returns-then-v-lt0 : goal.returns-then-v-lt0
returns-then-v-lt0 c =
    let size : c.from-size.result ≡ unsigned_abs c.args.v = c.from-size.ensures ∙ c.unsigned_abs.ensures.value ∙ ap unsigned_abs (to_z-of_z c.ranges.v) in
    rw (signed_low c.args.v (omega (arith, ints)), ← size) (and_then c.put-behind.ensures c.put_decimal.ensures)

pub returns : goal.returns
returns c =
    let size : c.from-size.result ≡ unsigned_abs c.args.v = c.from-size.ensures ∙ c.unsigned_abs.ensures.value ∙ ap unsigned_abs (to_z-of_z c.ranges.v) in
    rw (signed_high c.args.v (omega (arith, ints)), ← size) c.put_decimal-2.ensures

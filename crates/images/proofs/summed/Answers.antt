-- A byte more is summed.
use Rattle.std.proofs.Common.{ℕ, ◌+◌, ◌*◌, ◌%◌, refl, sym, ap, ◌∙◌, add-one, arith, get_or}
use Rattle.images.specs.Part.{check_of}
use Rattle.images.proofs.summed.Goals as goal

pub loop-byte-init : goal.loop-byte-init
unfolding check_of
loop-byte-init c = record { small = omega arith; summed = refl }

pub loop-byte-preserved : goal.loop-byte-preserved
unfolding check_of
loop-byte-preserved c =
    let v = c.loop-byte in
    let bytes = c.args.bytes.now in record {
      small = omega arith;
      summed = c.next-check.ensures
          ∙ ap (λ (k : ℕ). (257 * k + get_or bytes v.byte-index 0) % 65521) v.invariant.summed
          ∙ ap (check_of bytes) (sym (add-one v.byte-index));
    }

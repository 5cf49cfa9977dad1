-- `state_encode::put_unused` meets its contract: the rest of the buffer is written over.
use mathlib.Core.Path.{◌≡◌, refl, ap, ◌∙◌}
use Prim.Native.Nat.{ℕ}
use native.Mathlib.Omega.{arith}
use lib.ListN.{length, replicate}
use lib.Seq.{length-take-le}
use Rattle.std.proofs.lemmas.List.{length-drop}
use borrow.Rule.Slice.PartMut.{mid_of, put_mid}
use Rattle.state_bytes.proofs.Puts.{puts_part}
use Rattle.state_layout.specs.Layout.{unused_at, unused_length}
use Rattle.state_encode.proofs.put_unused.Goals as goal

pub returns : goal.returns
returns c =
    let b = c.args.b.now in
    let n : length (mid_of unused_at unused_length b) ≡ unused_length = length-take-le unused_length _ (omega (arith, length-drop unused_at b, c.requires)) in
    ap (put_mid unused_at unused_length b) (c.fill.ensures.after (λ y e. e) ∙ ap (λ (k : ℕ). replicate {A = ℕ} k 0) n)
    ∙ puts_part b unused_at unused_length (replicate {A = ℕ} unused_length 0) refl (omega (arith, c.requires))

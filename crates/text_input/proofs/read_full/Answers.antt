-- A read puts its bytes behind those that stand at the front.
use Rattle.std.proofs.Common.{◌≡◌, ℕ, ◌+◌, ◌-◌, ◌≤◌, List, ◌++◌, rules, length, take, sym, ap, ◌∙◌, subst}
use Rattle.std.proofs.lemmas.List.{length-take-le, take-append-le}
use Rattle.std.proofs.Math.Seq.{take-append-add}
use Rattle.std.specs.Io.KnownBytes.{Consumes}
use Rattle.std.proofs.KnownBytes.{Consumes-trans}
use borrow.Rule.Slice.PartMut.{put_mid, post_of}
use Rattle.text_input.proofs.read_full.Goals as goal

-- the first bytes after a read of n: those before it, and those that it gave
first_bytes : (a k n : ℕ) (xs ys : List ℕ) → a ≤ length xs → n ≤ length ys → take a xs ++ take n ys ≡ take (a + n) (put_mid a k xs ys)
first_bytes a k n xs ys within fits =
    let long = length-take-le a xs within in
    ap (λ (l : List ℕ). take a xs ++ l) (sym (take-append-le n ys (post_of a k xs) fits))
    ∙ sym (take-append-add (take a xs) (ys ++ post_of a k xs) n)
    ∙ ap (λ (m : ℕ). take (m + n) (put_mid a k xs ys)) long

pub loop-done-preserved : goal.loop-done-preserved
loop-done-preserved g c =
    let v = c.loop-done in
    let room = length v.buf - v.done in
    let counts = c.in_ok-n.ensures.bound in record {
      same_length = search rules;
      within = search rules;
      read = subst (Consumes _ _) (first_bytes v.done room c.in_ok-n.n v.buf c.read.new.buf v.invariant.within counts.0)
          (Consumes-trans _ _ _ _ _ v.invariant.read c.in_ok-n.ensures.bytes.0);
    }

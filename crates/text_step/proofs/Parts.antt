-- Two parts of lists, at one place and of one length, compared.
use Prim.Native.Nat.{ℕ, ◌+◌, ◌<◌, ◌≤◌}
use native.Mathlib.Omega.{arith}
use mathlib.Core.Path.{◌≡◌, sym, ap, ◌∙◌}
use mathlib.Core.Bool.{Bool, true}
use mathlib.Core.List.{List}
use lib.ListN.{length, get_or, take, drop, length-take, length-drop}
use lib.Dec.{eqb}
use lib.Pointwise.{pointwise}
use borrow.Author.Tests.{eq-eqb, eqb-true}
use Rattle.std.proofs.lemmas.List.{ext_get_or, get_or-take, get_or-drop}
use Rattle.std.proofs.lemmas.Bool.Decides.{Decides-eqb, same_from_decides}
use Rattle.std.proofs.lemmas.Slice.Eq.{slice_eq-Decides}
use Rattle.logic.proofs.Each.{each_passes, all_pass}
use Rattle.text_step.specs.Changes.{same}

-- `==` of the two parts tells whether each byte is the same
pub parts_same : (a b : List ℕ) (at m n : ℕ) (r : Bool) → m ≡ n → at + n ≤ length a → at + n ≤ length b
    → r ≡ pointwise eqb (take m (drop at a)) (take m (drop at b))
    → r ≡ same a b at n
parts_same a b at m n r e la lb h =
    same_from_decides r (same a b at n)
    (slice_eq-Decides Decides-eqb (part a) (part b) r (h ∙ ap (λ (k : ℕ). pointwise eqb (take k (drop at a)) (take k (drop at b))) e))
    (equal, alike)
  where
    part : List ℕ → List ℕ
    part s = take n (drop at s)

    read : (s : List ℕ) (k : ℕ) → k < n → get_or (take n (drop at s)) k 0 ≡ get_or s (at + k) 0
    read s k l = get_or-take n (drop at s) k 0 l ∙ get_or-drop at s k 0

    equal : same a b at n ≡ true → take n (drop at a) ≡ take n (drop at b)
    equal t =
        ext_get_or 0 _ _ (simp (length-take, length-drop) (omega arith))
        (λ k l.
        let k_in : k < n = omega (arith, length-take n (drop at a)) in
        read a k k_in ∙ eqb-true _ _ (each_passes _ n t k k_in) ∙ sym (read b k k_in))

    alike : take n (drop at a) ≡ take n (drop at b) → same a b at n ≡ true
    alike s = all_pass _ n (λ k l. eq-eqb _ _ (sym (read a k l) ∙ ap (λ (x : List ℕ). get_or x k 0) s ∙ read b k l))

-- A table that is looked up by code, row by row, has nothing for a code of no row, as the default arm of a `match` on all codes knows it.
use Prim.Native.Nat.{ℕ}
use mathlib.Core.Path.{◌≡◌, ap, ◌∙◌}
use mathlib.Core.Bool.{Bool, cond}
use mathlib.Core.List.{List, [], ◌∷◌}
use lib.Dec.{eqb}
use borrow.Author.Tests.{ne_eqb}

module _ {R : Type 0} (code : R → ℕ) where
  -- none of the rows has the code n, behind what is known already
  abbrev pub NoRow : Type 0 → List R → ℕ → Type 0
  NoRow known [] n = known
  NoRow known (r ∷ rs) n = NoRow (known × (n ≡ code r → ⊥)) rs n

  module _ {A : Type 0} (value : R → A) (none : A) (look : List R → ℕ → A)
      (empty : (n : ℕ) → look [] n ≡ none)
      (first : (r : R) (rs : List R) (n : ℕ) → look (r ∷ rs) n ≡ cond (eqb n (code r)) (value r) (look rs n)) where
    peel : (rs : List R) (known : Type 0) (n : ℕ) → NoRow known rs n → known × (look rs n ≡ none)
    peel [] known n h = (h, empty n)
    peel (r ∷ rs) known n h =
        let k = peel rs (known × (n ≡ code r → ⊥)) n h in
        (k.0.0, first r rs n ∙ ap (λ (t : Bool). cond t (value r) (look rs n)) (ne_eqb n (code r) k.0.1) ∙ k.1)

    pub looked_past : (rs : List R) (n : ℕ) → NoRow (Unit {0}) rs n → look rs n ≡ none
    looked_past rs n h = (peel rs (Unit {0}) n h).1

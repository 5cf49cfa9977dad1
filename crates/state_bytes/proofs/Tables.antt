-- Tables: a loop that fills an array from the front leaves one, and a list is the table of its elements.
use mathlib.Core.Path.{◌≡◌, refl, sym, ◌∙◌}
use Prim.Native.Nat.{ℕ, zero, suc, ◌+◌, ◌<◌, ◌≤◌}
use native.Mathlib.Omega.{arith}
use native.Mathlib.Nat.{le_of_eq}
use native.Mathlib.Numerals.{add-one}
use mathlib.Core.List.{List, [], ◌∷◌, ◌++◌}
use lib.ListN.{length, get_or, set, take, length-append, get_or-append}
use lib.Seq.{take-suc-set, take_all, get_or_at, ext_get_or}
use borrow.Author.Count.{below_more}
use Rattle.state_bytes.specs.Bytes.{table}

module _ {A : Type 0} where
  -- no turn
  pub none : (f : ℕ → A) → [] ≡ table 0 f
  unfolding table
  none f = refl

  -- one more turn
  pub more : (l : List A) (i : ℕ) (f : ℕ → A) (v : A) → i < length l → take i l ≡ table i f → v ≡ f i → take (i + 1) (set l i v) ≡ table (i + 1) f
  unfolding table
  more l i f v h e g = rw (add-one, take-suc-set, e, g)

  -- all turns
  pub all : (l : List A) (i n : ℕ) (f : ℕ → A) → i ≤ n → n ≤ i → length l ≡ n → take i l ≡ table i f → l ≡ table n f
  all l i n f a b h e = let g : i ≡ n = omega arith in sym (take_all n l (le_of_eq h)) ∙ (rw g at e)

  pub length_table : (n : ℕ) (f : ℕ → A) → length (table n f) ≡ n
  unfolding table
  length_table zero f = refl
  length_table (suc n) f = length-append (table n f) (f n ∷ []) ∙ let h = length_table n f in omega arith

  pub get_or_table : (n : ℕ) (f : ℕ → A) (d : A) (k : ℕ) → k < n → get_or (table n f) k d ≡ f k
  unfolding table
  get_or_table zero f d k lt = absurd (omega arith)
  get_or_table (suc n) f d k lt =
      let long = length_table n f in
      below_more (λ (j : ℕ). get_or (table n f ++ (f n ∷ [])) j d ≡ f j) n
      (λ j h. get_or-append (table n f) (f n ∷ []) d j (omega arith) ∙ get_or_table n f d j h)
      (get_or_at (table n f) (f n) [] d n long)
      k
      (omega arith)

  -- a list by its elements
  pub table_is : (n : ℕ) (f : ℕ → A) (l : List A) (d : A) → length l ≡ n → ((k : ℕ) → k < n → f k ≡ get_or l k d) → table n f ≡ l
  table_is n f l d h e =
      let long = length_table n f in
      ext_get_or d (table n f) l (omega arith) (λ k lt. let b : k < n = omega arith in get_or_table n f d k b ∙ e k b)

-- The lines of a text, counted byte by byte.
use mathlib.Core.Path.{◌≡◌}
use mathlib.Core.List.{List}
use Prim.Native.Nat.{ℕ, ◌+◌}
use native.Mathlib.Numerals.{add-one}
use native.Mathlib.Omega.{arith}
use lib.ListN.{get_or}
use borrow.Author.Tests.{eq-eqb, ne_eqb}
use Rattle.text_hex.specs.Lines.{lines_of}

-- one byte more
module _ (text : List ℕ) (i : ℕ) where
  pub ends : get_or text i 0 ≡ 10 → lines_of text (i + 1) ≡ lines_of text i + 1
  unfolding lines_of
  ends e = rw (add-one, eq-eqb (get_or text i 0) 10 e)

  pub goes_on : (get_or text i 0 ≡ 10 → ⊥) → lines_of text (i + 1) ≡ lines_of text i
  unfolding lines_of
  goes_on n = rw (add-one, ne_eqb (get_or text i 0) 10 n) (omega arith)

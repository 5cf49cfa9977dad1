-- A test that all rows pass, by one computation, is passed by the row of every code that is carried.
use Prim.Native.Nat.{ℕ}
use mathlib.Core.Path.{◌≡◌, refl}
use mathlib.Core.Bool.{Bool, true, false, ◌&&◌, not, cond}
use mathlib.Core.Logic.{◌⊎◌, inl, inr}
use mathlib.Core.List.{List, [], ◌∷◌}
use lib.Dec.{T, eqb}
use borrow.Author.Tests.{eqb-true}
use Rattle.logic.proofs.Choice.{both_hold, is_true}
use Rattle.command_table.specs.Rows.{Coded, row_in, no_row}
use Rattle.command_table.specs.declared.Row.{Row}

abbrev pub every : (ℕ → Row → Bool) → List Coded → Bool
every test [] = true
every test (r ∷ rs) = test r.code r.columns && every test rs

-- two tests that agree
abbrev pub same_test : Bool → Bool → Bool
same_test true b = b
same_test false b = not b

pub same_test_is : (a b : Bool) → T (same_test a b) → a ≡ b
same_test_is true true t = refl
same_test_is true false t = absurd t
same_test_is false true t = absurd t
same_test_is false false t = refl

-- a code has no row, or its row passes the test
pub every_row : (test : ℕ → Row → Bool) (rs : List Coded) → T (every test rs) → (code : ℕ)
    → (row_in rs code ≡ no_row) ⊎ (test code (row_in rs code) ≡ true)
unfolding row_in
every_row test [] t code = inl refl
every_row test (r ∷ rs) t code =
    let f = both_hold (test r.code r.columns) (every test rs) t in
    go (eqb code r.code) refl (is_true _ f.0) (every_row test rs f.1 code)
  where
    go : (b : Bool) → eqb code r.code ≡ b → test r.code r.columns ≡ true
        → (row_in rs code ≡ no_row) ⊎ (test code (row_in rs code) ≡ true)
        → (cond b r.columns (row_in rs code) ≡ no_row) ⊎ (test code (cond b r.columns (row_in rs code)) ≡ true)
    go true e f later = inr (rw (eqb-true code r.code e) f)
    go false e f later = later

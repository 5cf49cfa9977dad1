-- Numbers that commands store are in the range of what they are stored as.
use Prim.Native.Nat.{ℕ, ◌≤◌}
use mathlib.Core.Path.{◌≡◌, sym}
use mathlib.Core.Bool.{Bool, true, false, cond}
use native.Mathlib.Omega.{arith}
use lib.Dec.{eqb}
use lib.IntN.{ℤ, pos, negsuc}
use borrow.Author.Tests.{leb-true, ltb-true}
use mir.Syntax.{w32}
use mir.Val.{SFits}
use Rattle.limits.specs.Limits.{most_level, most_ramp, up_to}
use Rattle.logic.proofs.Choice.{clash, both}
use Rattle.state.specs.GoodState.{InRange}
use Rattle.machine.specs.Inputs.{level}
use Rattle.machine.specs.Effect.{bit, natural, within}

pub bit_level : (t : Bool) → bit t ≤ most_level
bit_level true = omega arith
bit_level false = omega arith

pub level_level : (byte : ℕ) → level byte ≤ most_level
level_level byte = go (eqb byte 0)
  where
    go : (t : Bool) → cond t 0 1 ≤ most_level
    go true = omega arith
    go false = omega arith

pub up_to_lem : (most n : ℕ) → up_to most n ≡ true → InRange most n
up_to_lem most n e = let b = both _ _ e in record { positive = ltb-true 0 n b.0; bounded = leb-true n most b.1 }

-- a content within the range of a parameter
pub natural_in : (most : ℕ) (z : ℤ) → within 1 most z ≡ true → InRange most (natural z)
natural_in most (pos n) e = let b = both _ _ e in record { positive = leb-true 1 n b.0; bounded = leb-true n most b.1 }
natural_in most (negsuc n) e = clash (sym e)

-- parameters are 32-bit numbers
pub small_fits : (most n : ℕ) → most ≤ most_ramp → InRange most n → SFits w32 (pos n)
small_fits most n l r = let b = r.bounded in record { sfits = omega arith }

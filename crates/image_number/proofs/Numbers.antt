-- The bytes of a number, and what stands at a place, case by case of the bytes there.
use mathlib.Core.Path.{◌≡◌, ap}
use Prim.Native.Nat.{ℕ, ◌+◌, ◌-◌, ◌*◌, ◌/◌, ◌%◌, ◌<◌, ◌≤◌}
use native.Mathlib.Omega.{arith}
use mathlib.Core.List.{List, [], ◌∷◌}
use lib.ListN.{length, get_or}
use lib.Dec.{ltb}
use borrow.Author.Tests.{lt-ltb, le-ltb, eq-eqb, ne_eqb}
use Rattle.logic.proofs.Choice.{either}
use Rattle.image_number.specs.Number.{number_bytes, first_byte, second_byte, number_at, read_as}
use Rattle.std.specs.Prelude.{Result, Ok, Err}
use Rattle.image_number.specs.declared.Number.{Number}
use Rattle.image_number.specs.declared.NumberFault.{NumberFault}
use Rattle.image_number.specs.declared.NumberFault.TheVariants.{EndsEarly, NotShortest}

-- equal numbers have one value, and one place behind them
same_number : (x y : Number) → ◌≡◌ {A = Result Number NumberFault} (Ok x) (Ok y) → x ≡ y
same_number x y e = cc

pub value_of : {v w a b : ℕ} → read_as v a ≡ read_as w b → v ≡ w
value_of e = ap (λ (x : Number). x.value) (same_number _ _ e)

pub next_of : {v w a b : ℕ} → read_as v a ≡ read_as w b → a ≡ b
next_of e = ap (λ (x : Number). x.next) (same_number _ _ e)

-- a number takes one or two bytes
pub size_most : (v : ℕ) → length (number_bytes v) ≤ 2
unfolding number_bytes
size_most v = either (λ (s : List ℕ). length s ≤ 2) (ltb v 128) (omega arith) (omega arith)

pub one : (v : ℕ) → v < 128 → number_bytes v ≡ v ∷ []
unfolding number_bytes
one v h = rw lt-ltb

pub two : (v : ℕ) → 128 ≤ v → number_bytes v ≡ (128 + v % 128) ∷ (v / 128) ∷ []
unfolding number_bytes
two v h = rw le-ltb

module _ (s : List ℕ) (at : ℕ) where
  pub none : length s ≤ at → Err EndsEarly ≡ number_at s at
  unfolding number_at
  none h = rw le-ltb

  module _ (b : ℕ) (is : b ≡ get_or s at 0) where
    pub short_one : at < length s → b < 128 → read_as b (at + 1) ≡ number_at s at
    unfolding number_at first_byte
    short_one h l = rw (lt-ltb at (length s) h, ← is, lt-ltb b 128 l)

    pub cut : at < length s → 128 ≤ b → length s ≤ at + 1 → Err EndsEarly ≡ number_at s at
    unfolding number_at first_byte
    cut h l e = rw (lt-ltb at (length s) h, ← is, le-ltb b 128 l, le-ltb (at + 1) (length s) e)

    pub more : (c : ℕ) → c ≡ get_or s (at + 1) 0 → 128 ≤ b → at + 1 < length s → second_byte at b c ≡ number_at s at
    unfolding number_at first_byte
    more c g l h = let k : at < length s = omega arith in rw (lt-ltb at (length s) k, ← is, le-ltb b 128 l, lt-ltb (at + 1) (length s) h, g)

module _ (at b c : ℕ) where
  pub zero_high : c ≡ 0 → Err NotShortest ≡ second_byte at b c
  unfolding second_byte
  zero_high h = rw (eq-eqb c 0 h)

  pub big_high : 128 ≤ c → Err NotShortest ≡ second_byte at b c
  unfolding second_byte
  big_high h = let n : c ≡ 0 → ⊥ = λ e. omega arith in rw (ne_eqb c 0 n, le-ltb c 128 h)

  pub good_high : (c ≡ 0 → ⊥) → c < 128 → read_as (b - 128 + 128 * c) (at + 2) ≡ second_byte at b c
  unfolding second_byte
  good_high n h = rw (ne_eqb c 0 n, lt-ltb c 128 h)

-- Numbers as they stand in an image (document 01, "The image"): seven bits to a byte, the low ones first, and a top bit that says
-- that another byte follows.
use Rattle.std.specs.Prelude.{◌≡◌, ℕ, ◌+◌, ◌-◌, ◌*◌, ◌/◌, ◌%◌, ◌<◌, cond, List, [], ◌∷◌, length, get_or, ltb, eqb, Result, Ok, Err}
use Rattle.image_number.specs.declared.Number.{Number}
use Rattle.image_number.specs.declared.NumberFault.{NumberFault}
use Rattle.image_number.specs.declared.NumberFault.TheVariants.{EndsEarly, NotShortest}

-- numbers from here on have no form of two bytes
abbrev pub number_limit : ℕ
number_limit = 16384

-- the bytes of v, a number below the limit: one byte below 128, else two
unfoldable pub number_bytes : ℕ → List ℕ
number_bytes v = cond (ltb v 128) (v ∷ []) ((128 + v % 128) ∷ (v / 128) ∷ [])

-- a number v, with the place behind it
abbrev pub read_as : ℕ → ℕ → Result Number NumberFault
read_as v next = Ok (record { value = v; next = next })

-- a second byte c behind a first byte b that has its top bit set: 0 would not be the shortest form, a top bit would ask for a third byte
unfoldable pub second_byte : ℕ → ℕ → ℕ → Result Number NumberFault
second_byte at b c = cond (eqb c 0) (Err NotShortest) (cond (ltb c 128) (read_as (b - 128 + 128 * c) (at + 2)) (Err NotShortest))

-- a first byte b
unfoldable pub first_byte : List ℕ → ℕ → ℕ → Result Number NumberFault
first_byte s at b = cond (ltb b 128) (read_as b (at + 1)) (cond (ltb (at + 1) (length s)) (second_byte at b (get_or s (at + 1) 0)) (Err EndsEarly))

-- the number at a place of an image, with the place behind it
unfoldable pub number_at : List ℕ → ℕ → Result Number NumberFault
number_at s at = cond (ltb at (length s)) (first_byte s at (get_or s at 0)) (Err EndsEarly)

-- v is read somewhere in some bytes
pub record Readable (v : ℕ) : Type 0 where
  pub image : List ℕ
  pub bytes : (k : ℕ) → get_or image k 0 < 256
  pub at : ℕ
  pub next : ℕ
  pub read : number_at image at ≡ read_as v next

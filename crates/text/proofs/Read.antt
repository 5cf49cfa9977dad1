-- What the digits of a number say: its decimal digits are digits, the first is no 0, and read back they give the number; so do a signed number's text
-- and two hexadecimal digits.
use Rattle.std.specs.Prelude.{◌≤ℤ◌, ◌<ℤ◌, unsigned_abs}
use Rattle.std.proofs.lemmas.Int.{ints}
use mathlib.Core.Path.{◌≡◌, refl, sym, ap, ◌∙◌}
use mathlib.Core.List.{List, [], ◌∷◌, ◌++◌}
use Prim.Native.Nat.{ℕ, zero, suc, ◌+◌, ◌*◌, ◌-◌, ◌/◌, ◌%◌, ◌^◌, ◌<◌, ◌≤◌}
use native.Mathlib.Nat.{pow-suc}
use native.Mathlib.Omega.{arith}
use lib.IntN.{ℤ, pos, negsuc}
use lib.ListN.{length, get_or, take, length-append, get_or-append}
use lib.Seq.{get_or-append-add, take-suc, take-length}
use borrow.Author.Tests.{lt-ltb, le-ltb, ne_eqb}
use Rattle.logic.proofs.Choice.{by}
use Rattle.text_hex.specs.Hex.{digit_of, hex_byte, hex_bytes, all_bytes}
use Rattle.text.specs.Text.{digit, digits_of, decimal_of, minus, signed_of, hex_digit, hex_of, hex_first, hex_all, value_from, decimal_value, below, signed_value_of}
use Rattle.text.specs.Text.{Digits}

-- ---- digits, by the fuel

-- below 10, one digit
one_digit : (fuel n : ℕ) → n < 10 → digits_of (suc fuel) n ≡ digit n ∷ []
unfolding digits_of
one_digit fuel n h = let e : n % 10 ≡ n = omega arith in rw (lt-ltb, e)

more_digits : (fuel n : ℕ) → 10 ≤ n → digits_of (suc fuel) n ≡ digits_of fuel (n / 10) ++ (digit (n % 10) ∷ [])
unfolding digits_of
more_digits fuel n h = rw le-ltb

-- any fuel above the number is enough
enough : (f g n : ℕ) → n < f → n < g → digits_of f n ≡ digits_of g n
enough zero g n h k = absurd (omega arith)
enough (suc f) zero n h k = absurd (omega arith)
enough (suc f) (suc g) n h k =
    by n 10
    (λ l. one_digit f n l ∙ sym (one_digit g n l))
    (λ l. more_digits f n l ∙ ap (λ (x : List ℕ). x ++ (digit (n % 10) ∷ [])) (enough f g (n / 10) (omega arith) (omega arith)) ∙ sym (more_digits g n l))

-- ---- decimal numbers, digit by digit

pub small : (n : ℕ) → n < 10 → decimal_of n ≡ digit n ∷ []
unfolding decimal_of
small n h = one_digit n n h

pub large : (n : ℕ) → 10 ≤ n → decimal_of n ≡ decimal_of (n / 10) ++ (digit (n % 10) ∷ [])
unfolding decimal_of
large n h = more_digits n n h ∙ ap (λ (x : List ℕ). x ++ (digit (n % 10) ∷ [])) (enough n (suc (n / 10)) (n / 10) (omega arith) (omega arith))

-- what holds of one digit, and with one digit more, holds of every decimal number
module _ (P : ℕ → List ℕ → Type 0) (one : (n : ℕ) → n < 10 → P n (digit n ∷ []))
    (more : (n : ℕ) → 10 ≤ n → P (n / 10) (decimal_of (n / 10)) → P n (decimal_of (n / 10) ++ (digit (n % 10) ∷ []))) where
  up_to : (fuel n : ℕ) → n < fuel → P n (decimal_of n)
  up_to zero n h = absurd (omega arith)
  up_to (suc fuel) n h =
      by n 10
      (λ l. rw (small n l) (one n l))
      (λ l. rw (large n l) (more n l (up_to fuel (n / 10) (omega arith))))

  pub by_digits : (n : ℕ) → P n (decimal_of n)
  by_digits n = up_to (suc n) n (omega arith)

-- ---- read back

-- one digit more
value_more : (v : ℕ) (ds : List ℕ) (d : ℕ) → value_from v (ds ++ (d ∷ [])) ≡ 10 * value_from v ds + (d - 48)
unfolding value_from
value_more v [] d = refl
value_more v (b ∷ ds) d = value_more (10 * v + (b - 48)) ds d

-- the number of the digits is the number
pub read_back : (n : ℕ) → decimal_value (decimal_of n) ≡ n
unfolding decimal_value value_from
read_back =
    by_digits (λ n ds. decimal_value ds ≡ n)
    (λ n h. omega arith)
    (λ n h e. value_more 0 (decimal_of (n / 10)) (digit (n % 10)) ∙ (let q : value_from 0 (decimal_of (n / 10)) ≡ n / 10 = e in rw q (omega arith)))

-- every byte is a digit
pub all_digits : (n : ℕ) → Digits (decimal_of n)
all_digits = by_digits (λ n ds. Digits ds) one more
  where
    one : (n : ℕ) → n < 10 → Digits (digit n ∷ [])
    one n h zero l = (omega arith, omega arith)
    one n h (suc k) l = absurd (omega arith)

    more : (n : ℕ) → 10 ≤ n → Digits (decimal_of (n / 10)) → Digits (decimal_of (n / 10) ++ (digit (n % 10) ∷ []))
    more n h d k l =
        by k (length (decimal_of (n / 10)))
        (λ g. rw (get_or-append (decimal_of (n / 10)) (digit (n % 10) ∷ []) 0 k g) (d k g))
        (λ g.
        let a = length-append (decimal_of (n / 10)) (digit (n % 10) ∷ []) in
        let q : k ≡ length (decimal_of (n / 10)) + 0 = omega arith in
        rw (q, get_or-append-add (decimal_of (n / 10)) (digit (n % 10) ∷ []) 0 0) (omega arith, omega arith))

-- there is a first one, and it is a 0 only in 0
pub first_digit : (n : ℕ) → (0 < length (decimal_of n)) × (0 < n → digit 0 < get_or (decimal_of n) 0 0)
first_digit =
    by_digits (λ n ds. (0 < length ds) × (0 < n → digit 0 < get_or ds 0 0))
    (λ n h. (omega arith, λ g. omega arith))
    (λ n h p.
    let first = get_or-append (decimal_of (n / 10)) (digit (n % 10) ∷ []) 0 0 p.0 in
    let g = p.1 (omega arith) in
    (omega (arith, length-append (decimal_of (n / 10)) (digit (n % 10) ∷ [])), λ l. omega arith))

-- a number below 10 ^ k has at most k digits
pub few_digits : (k n : ℕ) → n < 10 ^ suc k → length (decimal_of n) ≤ suc k
few_digits zero n h = rw (small n (omega arith)) (omega arith)
few_digits (suc k) n h =
    let p = pow-suc 10 (suc k) in
    by n 10
    (λ l. rw (small n l) (omega arith))
    (λ l.
    let few = few_digits k (n / 10) (omega arith) in
    rw (large n l) (omega (arith, length-append (decimal_of (n / 10)) (digit (n % 10) ∷ []))))

-- a signed number's text gives it back: a digit is no minus
pub signed_back : (z : ℤ) → signed_value_of (signed_of z) ≡ z
unfolding signed_value_of signed_of
signed_back (pos n) = unsigned (decimal_of n) (first_digit n).0 (λ l. (all_digits n 0 l).0) ∙ ap pos (read_back n)
  where
    unsigned : (ds : List ℕ) → 0 < length ds → (0 < length ds → digit 0 ≤ get_or ds 0 0) → signed_value_of ds ≡ pos (decimal_value ds)
    unsigned [] l d = absurd (omega arith)
    unsigned (b ∷ ds) l d = let g = d l in rw (ne_eqb b minus (λ e. omega arith))
signed_back (negsuc n) = ap below (read_back (suc n))

digit_back : (d : ℕ) → d < 16 → digit_of (hex_digit d) ≡ d
digit_back d h = by d 10 (λ l. rw (lt-ltb d 10 l) (decimal l)) (λ l. rw (le-ltb d 10 l) (letter l))
  where
    decimal : d < 10 → digit_of (digit d) ≡ d
    decimal l =
        let q : digit d % 16 ≡ d = omega arith in
        let z : digit d / 64 ≡ 0 = omega arith in
        rw (q, z) (omega arith)

    letter : 10 ≤ d → digit_of (55 + d) ≡ d
    letter l =
        let q : (55 + d) % 16 ≡ d - 9 = omega arith in
        let z : (55 + d) / 64 ≡ 1 = omega arith in
        rw (q, z) (omega arith)

-- two hexadecimal digits give the byte back, as `text_hex` reads them
pub hex_back : (b : ℕ) → b < 256 → hex_byte (hex_digit (b / 16)) (hex_digit (b % 16)) ≡ b
hex_back b h = rw (digit_back (b / 16) (omega arith), digit_back (b % 16) (omega arith)) (omega arith)

-- ---- bytes in hexadecimal digits give the bytes back

-- digits behind those of n bytes play no part
first_digits : (l rest : List ℕ) (n : ℕ) → 2 * n ≤ length l → hex_bytes (l ++ rest) n ≡ hex_bytes l n
unfolding hex_bytes
first_digits l rest zero h = refl
first_digits l rest (suc n) h =
    rw (first_digits l rest n (omega arith), get_or-append l rest 0 (2 * n) (omega arith), get_or-append l rest 0 (2 * n + 1) (omega arith))

module _ (bs : List ℕ) (bytes : (k : ℕ) → k < length bs → get_or bs k 0 < 256) where
  hex_length : (n : ℕ) → length (hex_first bs n) ≡ 2 * n
  unfolding hex_first hex_of
  hex_length zero = refl
  hex_length (suc n) = let e = hex_length n in omega (arith, length-append (hex_first bs n) (hex_of (get_or bs n 0)))

  first_back : (n : ℕ) → n ≤ length bs → hex_bytes (hex_first bs n) n ≡ take n bs
  unfolding hex_first hex_of hex_bytes
  first_back zero h = refl
  first_back (suc n) h =
      let l = hex_first bs n in
      let b = get_or bs n 0 in
      let long = hex_length n in
      let high : get_or (l ++ hex_of b) (2 * n) 0 ≡ hex_digit (b / 16) =
      (let q : 2 * n ≡ length l + 0 = omega arith in rw q (get_or-append-add l (hex_of b) 0 0)) in
      let low : get_or (l ++ hex_of b) (2 * n + 1) 0 ≡ hex_digit (b % 16) =
      (let q : 2 * n + 1 ≡ length l + 1 = omega arith in rw q (get_or-append-add l (hex_of b) 1 0)) in
      rw (first_digits l (hex_of b) n (omega arith), first_back n (omega arith), high, low, hex_back b (bytes n h), take-suc bs n 0 h)

  pub all_back : all_bytes (hex_all bs) ≡ bs
  all_back =
      let long = hex_length (length bs) in
      let half : length (hex_all bs) / 2 ≡ length bs = omega arith in
      rw half (first_back (length bs) (omega arith) ∙ take-length bs)

-- ---- signed numbers, by their distance from 0

pub signed_high : (z : ℤ) → pos 0 ≤ℤ z → signed_of z ≡ decimal_of (unsigned_abs z)
unfolding signed_of
signed_high (pos n) h = refl
signed_high (negsuc n) h = absurd (omega (arith, ints))

pub signed_low : (z : ℤ) → z <ℤ pos 0 → signed_of z ≡ minus ∷ decimal_of (unsigned_abs z)
unfolding signed_of
signed_low (pos n) h = absurd (omega (arith, ints))
signed_low (negsuc n) h = refl

-- A number that was written is read back, with the place behind it; where a number is read, its bytes stand there, so that only
-- shortest forms are read; and the numbers that can be read are those below the limit.
use mathlib.Core.Path.{◌≡◌, refl, sym, ap, ◌∙◌}
use mathlib.Core.Logic.{◌↔◌}
use Prim.Native.Nat.{ℕ, zero, suc, ◌+◌, ◌-◌, ◌*◌, ◌/◌, ◌%◌, ◌<◌, ◌≤◌}
use native.Mathlib.Omega.{arith}
use mathlib.Core.List.{List, [], ◌∷◌}
use lib.ListN.{length, get_or}
use Rattle.image_number.specs.Number.{number_limit, number_bytes, number_at, read_as, Readable}
use Rattle.std.specs.Prelude.{Result, Err}
use Rattle.image_number.specs.declared.Number.{Number}
use Rattle.image_number.specs.declared.NumberFault.{NumberFault}
use Rattle.logic.proofs.Choice.{by}
use Rattle.logic.proofs.Has.{Has, whole, head, tail, nil, cons}
use Rattle.image_number.proofs.Numbers as numbers
use Rattle.image_number.proofs.Numbers.{value_of, next_of, one, two, short_one, cut, more, zero_high, big_high, good_high}

-- a list that has the bytes of v at index at
module _ (s : List ℕ) (at v : ℕ) (small : v < number_limit) (has : Has s at (number_bytes v)) (room : at + length (number_bytes v) ≤ length s) where
  back_one : v < 128 → number_at s at ≡ read_as v (at + length (number_bytes v))
  back_one h =
      let e = one v h in
      let r : at + 1 ≤ length s = rw e at room in
      let g : get_or s at 0 ≡ v = head (rw e at has) in
      rw e (sym (short_one s at v (sym g) (omega arith) h))

  back_two : 128 ≤ v → number_at s at ≡ read_as v (at + length (number_bytes v))
  back_two h =
      let e = two v h in
      let r : at + 2 ≤ length s = rw e at room in
      let t = rw e at has in
      let g : get_or s at 0 ≡ 128 + v % 128 = head t in
      let k : get_or s (at + 1) 0 ≡ v / 128 = head (tail t) in
      let q : 128 + v % 128 - 128 + 128 * (v / 128) ≡ v = omega arith in
      rw e (sym (more s at (128 + v % 128) (sym g) (v / 128) (sym k) (omega arith) (omega arith))
      ∙ sym (good_high at (128 + v % 128) (v / 128) (λ z. omega arith) (omega arith))
      ∙ ap (λ (n : ℕ). read_as n (at + 2)) q)

  pub number_back : number_at s at ≡ read_as v (at + length (number_bytes v))
  number_back = by v 128 back_one back_two

-- the bytes of v stand at index at of s, with n behind them
pub record There (s : List ℕ) (at v n : ℕ) : Type 0 where
  pub has : Has s at (number_bytes v)
  pub small : v < number_limit
  pub next : n ≡ at + length (number_bytes v)
  pub room : n ≤ length s

-- where a number is read, there is no fault
clash : {P : Type 0} {v n : ℕ} {f : NumberFault} (r : Result Number NumberFault) → r ≡ read_as v n → r ≡ Err f → P
clash r p q = let z : ◌≡◌ {A = ℕ} 0 1 = cc in absurd (omega arith)

module _ (s : List ℕ) (at v n : ℕ) (byte : get_or s at 0 < 256) (read : number_at s at ≡ read_as v n) where
  there_one : at < length s → get_or s at 0 < 128 → There s at v n
  there_one h l =
      let e = short_one s at (get_or s at 0) refl h l in
      let p = value_of (e ∙ read) in
      let q = next_of (e ∙ read) in
      let w = one v (omega arith) in
      record { has = rw w (cons p nil); small = omega arith; next = rw w (sym q); room = omega arith }

  there_two : at + 1 < length s → 128 ≤ get_or s at 0 → (get_or s (at + 1) 0 ≡ 0 → ⊥) → get_or s (at + 1) 0 < 128 → There s at v n
  there_two h l z k =
      let e = good_high at (get_or s at 0) (get_or s (at + 1) 0) z k ∙ more s at (get_or s at 0) refl (get_or s (at + 1) 0) refl l h in
      let p = value_of (e ∙ read) in
      let q = next_of (e ∙ read) in
      let w = two v (omega arith) in
      record { has = rw w (cons (omega arith) (cons (omega arith) nil)); small = omega arith; next = rw w (sym q); room = omega arith }

  pub number_only : There s at v n
  number_only =
      by at (length s)
      (λ h. by (get_or s at 0) 128 (there_one h)
      (λ l. by (at + 1) (length s)
      (λ k. let m = more s at (get_or s at 0) refl (get_or s (at + 1) 0) refl l k in
      by 0 (get_or s (at + 1) 0)
      (λ z. by (get_or s (at + 1) 0) 128 (there_two k l (λ e. omega arith))
      (λ g. clash (number_at s at) read (sym (big_high at (get_or s at 0) (get_or s (at + 1) 0) g ∙ m))))
      (λ z. clash (number_at s at) read (sym (zero_high at (get_or s at 0) (get_or s (at + 1) 0) (omega arith) ∙ m))))
      (λ k. clash (number_at s at) read (sym (cut s at (get_or s at 0) refl h l k)))))
      (λ h. clash (number_at s at) read (sym (numbers.none s at h)))

bytes_one : (a : ℕ) → a < 256 → (k : ℕ) → get_or (a ∷ []) k 0 < 256
bytes_one a h zero = h
bytes_one a h (suc k) = omega arith

bytes_two : (a b : ℕ) → a < 256 → b < 256 → (k : ℕ) → get_or (a ∷ b ∷ []) k 0 < 256
bytes_two a b h g zero = h
bytes_two a b h g (suc k) = bytes_one b g k

-- the bytes of a number below the limit are bytes
number_bytes_lem : (v : ℕ) → v < number_limit → (k : ℕ) → get_or (number_bytes v) k 0 < 256
number_bytes_lem v small k =
    by v 128
    (λ h. rw (one v h) (bytes_one v (omega arith) k))
    (λ h. rw (two v h) (bytes_two (128 + v % 128) (v / 128) (omega arith) (omega arith) k))

-- no number that is read is above 16,383, and each up to there can be read
pub readable_exactly : (v : ℕ) → Readable v ↔ (v < number_limit)
readable_exactly v = (below, within)
  where
    below : Readable v → v < number_limit
    below r = (number_only r.image r.at v r.next (r.bytes r.at) r.read).small

    within : v < number_limit → Readable v
    within h =
        record {
          image = number_bytes v;
          bytes = number_bytes_lem v h;
          at = 0;
          next = 0 + length (number_bytes v);
          read = number_back (number_bytes v) 0 v h (whole (number_bytes v)) (omega arith);
        }

-- The bytes of a line: how many they are, what the first of them are, and one more put behind them.
use mathlib.Core.Path.{◌≡◌, refl, ap, ◌∙◌}
use mathlib.Core.List.{List, ◌++◌, append_assoc}
use Prim.Native.Nat.{ℕ, zero, suc, ◌+◌, ◌*◌, ◌<◌, ◌≤◌}
use native.Mathlib.Numerals.{add-one}
use native.Mathlib.Omega.{arith}
use lib.ListN.{length, take, drop, set, get_or, length-append, length-drop}
use lib.Seq.{take_all, take-append-le, take_at, drop-append-add, drop-drop, set_split}
use Rattle.logic.proofs.Choice.{by}
use Rattle.text_hex.specs.Hex.{hex_byte, hex_bytes}

module _ (line : List ℕ) where
  pub bytes_length : (n : ℕ) → length (hex_bytes line n) ≡ n
  unfolding hex_bytes
  bytes_length zero = refl
  bytes_length (suc n) = simp length-append (let e = bytes_length n in omega arith)

  -- the first n of k bytes
  pub first_bytes : (k n : ℕ) → n ≤ k → take n (hex_bytes line k) ≡ hex_bytes line n
  unfolding hex_bytes
  first_bytes zero zero h = refl
  first_bytes zero (suc n) h = absurd (omega arith)
  first_bytes (suc k) n h =
      let e = bytes_length k in
      by n (suc k)
      (λ l. take-append-le n (hex_bytes line k) _ (omega arith) ∙ first_bytes k n (omega arith))
      (λ l. let q : n ≡ suc k = omega arith in rw q (take_all (suc k) (hex_bytes line (suc k)) (let g = bytes_length (suc k) in omega arith)))

  -- what stands behind them plays no part
  pub front : (n : ℕ) (rest : List ℕ) → take n (hex_bytes line n ++ rest) ≡ hex_bytes line n
  front n rest = take_at (hex_bytes line n) rest n (bytes_length n)

  -- byte n is put behind the first n
  pub one_more : (l : List ℕ) (n v : ℕ) → n < length l → v ≡ hex_byte (get_or line (2 * n) 0) (get_or line (2 * n + 1) 0)
      → set (hex_bytes line n ++ drop n l) n v ≡ hex_bytes line (n + 1) ++ drop (n + 1) l
  unfolding hex_bytes
  one_more l n v h e =
      let a = set_split (hex_bytes line n ++ drop n l) n v (let s = length-append (hex_bytes line n) (drop n l) in
      omega (arith, bytes_length n, length-drop n l)) in
      let d : drop (suc n) (hex_bytes line n ++ drop n l) ≡ drop (suc n) l =
      (let q : suc n ≡ length (hex_bytes line n) + 1 = omega (arith, bytes_length n) in ap (λ (k : ℕ). drop k (hex_bytes line n ++ drop n l)) q)
      ∙ drop-append-add (hex_bytes line n) (drop n l) 1 ∙ drop-drop 1 n l ∙ ap (λ (k : ℕ). drop k l) (add-one n) in
      rw (add-one, a, front n (drop n l), d, e, append_assoc)

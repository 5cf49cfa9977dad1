-- Flags as a number that is cut to w bits, flag by flag, from the last one down: it does not matter whether the number is cut once or after each
-- flag.
use Rattle.std.proofs.Common.{◌≡◌, ℕ, suc, ◌+◌, ◌-◌, ◌*◌, ◌%◌, ◌^◌, ◌<◌, ◌≤◌, List, get_or, pos, sym, ap, ◌∙◌, arith}
use native.Mathlib.Nat.{zero-mod, mod-add-mod, add-mod-mod}
use mir.Syntax.{Width}
use mir.Val.{bits}
use Rattle.num_arith.specs.Wrap.{word}
use Rattle.machine.specs.Effect.{flag_number}

-- 2 * n + l, modulo M, by two sums that wrap
by_sums : (M l n : ℕ) → ((n + n) % M + l) % M ≡ (l + 2 * n) % M
by_sums M l n = let e : n + n + l ≡ l + 2 * n = omega arith in mod-add-mod (n + n) M l ∙ ap (λ (k : ℕ). k % M) e

-- and it depends on n modulo M alone
cut_before : (M l n : ℕ) → (l + 2 * (n % M)) % M ≡ (l + 2 * n) % M
cut_before M l n =
    sym (by_sums M l (n % M))
    ∙ ap (λ (k : ℕ). (k + l) % M) (mod-add-mod n M (n % M) ∙ add-mod-mod n n M)
    ∙ by_sums M l n

module _ (w : Width) (flags : List ℕ) (first count : ℕ) where
  -- none yet
  pub none : 0 ≡ word w (pos (flag_number flags (first + count) (count - count)))
  unfolding flag_number word
  none = let k : count - count ≡ 0 = omega arith in rw k (sym (zero-mod (2 ^ bits w)))

  -- one flag more
  pub more : (left number : ℕ) → 0 < left → left ≤ count → number ≡ word w (pos (flag_number flags (first + left) (count - left)))
      → word w (pos (get_or flags (first + (left - 1)) 0 + 2 * number)) ≡ word w (pos (flag_number flags (first + (left - 1)) (count - (left - 1))))
  unfolding flag_number word
  more left number p l e =
      let k : count - (left - 1) ≡ suc (count - left) = omega arith in
      let a : first + (left - 1) + 1 ≡ first + left = omega arith in
      rw (e, k, a) (cut_before (2 ^ bits w) (get_or flags (first + (left - 1)) 0) (flag_number flags (first + left) (count - left)))

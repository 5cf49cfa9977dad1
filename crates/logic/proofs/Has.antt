-- `Has s at xs`: the list s has xs from the place `at` on. Its parts, its joints, and what is at the front.
use mathlib.Core.Path.{◌≡◌, sym, ap, ◌∙◌}
use Prim.Native.Nat.{ℕ, zero, suc, ◌+◌, ◌-◌, ◌<◌, ◌≤◌}
use native.Mathlib.Omega.{arith}
use native.Mathlib.Nat.{add-zero}
use mathlib.Core.List.{List, [], ◌∷◌, ◌++◌}
use lib.ListN.{length, get_or, take, length-append, get_or-append}
use lib.Seq.{get_or-append-add, ext_get_or, get_or-take, length-take-le}
use Rattle.logic.proofs.Choice.{by}

pub record Has (s : List ℕ) (at : ℕ) (xs : List ℕ) : Type 0 where
  pub is : (k : ℕ) → k < length xs → get_or s (at + k) 0 ≡ get_or xs k 0

-- every list has itself
pub whole : (s : List ℕ) → Has s 0 s
whole s = record { is = λ k lt. let q : 0 + k ≡ k = omega arith in ap (λ (j : ℕ). get_or s j 0) q }

-- what a list has at its front is its first part
pub front : (s xs : List ℕ) → Has s 0 xs → length xs ≤ length s → take (length xs) s ≡ xs
front s xs h l =
    ext_get_or 0 (take (length xs) s) xs (length-take-le (length xs) s l)
    (λ k lt.
    let b : k < length xs = let e = length-take-le (length xs) s l in omega arith in
    get_or-take (length xs) s k 0 b ∙ (let q : k ≡ 0 + k = omega arith in ap (λ (j : ℕ). get_or s j 0) q) ∙ h.is k b)

module _ {s : List ℕ} {at : ℕ} where
  -- ---- parts

  pub left : (xs ys : List ℕ) → Has s at (xs ++ ys) → Has s at xs
  left xs ys h = record { is = λ k lt. h.is k (let e = length-append xs ys in omega arith) ∙ get_or-append xs ys 0 k lt }

  pub right : (xs ys : List ℕ) (n : ℕ) → length xs ≡ n → Has s at (xs ++ ys) → Has s (at + n) ys
  right xs ys n e h =
      record {
        is = λ k lt.
            (let q : at + n + k ≡ at + (length xs + k) = omega arith in ap (λ (j : ℕ). get_or s j 0) q)
            ∙ h.is (length xs + k) (let g = length-append xs ys in omega arith)
            ∙ get_or-append-add xs ys k 0;
      }

  pub head : {x : ℕ} {xs : List ℕ} → Has s at (x ∷ xs) → get_or s at 0 ≡ x
  head h = ap (λ (j : ℕ). get_or s j 0) (sym (add-zero at)) ∙ h.is 0 (omega arith)

  pub tail : {x : ℕ} {xs : List ℕ} → Has s at (x ∷ xs) → Has s (at + 1) xs
  tail h = record { is = λ k lt. (let q : at + 1 + k ≡ at + suc k = omega arith in ap (λ (j : ℕ). get_or s j 0) q) ∙ h.is (suc k) (omega arith) }

  -- ---- and joints

  pub nil : Has s at []
  nil = record { is = λ k lt. absurd (omega arith) }

  pub cons : {x : ℕ} {xs : List ℕ} → get_or s at 0 ≡ x → Has s (at + 1) xs → Has s at (x ∷ xs)
  cons {x} {xs} e h = record { is = at_each }
    where
      at_each : (k : ℕ) → k < length (x ∷ xs) → get_or s (at + k) 0 ≡ get_or (x ∷ xs) k 0
      at_each zero lt = ap (λ (j : ℕ). get_or s j 0) (add-zero at) ∙ e
      at_each (suc k) lt = (let q : at + suc k ≡ at + 1 + k = omega arith in ap (λ (j : ℕ). get_or s j 0) q) ∙ h.is k (omega arith)

  pub join : (xs ys : List ℕ) (n : ℕ) → length xs ≡ n → Has s at xs → Has s (at + n) ys → Has s at (xs ++ ys)
  join xs ys n e h g =
      record {
        is = λ k lt.
            by k (length xs)
            (λ b. h.is k b ∙ sym (get_or-append xs ys 0 k b))
            (λ b.
            (let q : at + k ≡ at + n + (k - length xs) = omega arith in ap (λ (j : ℕ). get_or s j 0) q)
            ∙ g.is (k - length xs) (let a = length-append xs ys in omega arith)
            ∙ sym (get_or-append-add xs ys (k - length xs) 0)
            ∙ (let q : length xs + (k - length xs) ≡ k = omega arith in ap (λ (j : ℕ). get_or (xs ++ ys) j 0) q));
      }

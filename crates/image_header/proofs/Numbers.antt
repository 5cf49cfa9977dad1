-- A header and its list of numbers hold the same; so do two that are tested to be the same.
use Prim.Native.Nat.{ℕ, zero, suc, ◌+◌, ◌<◌, ◌≤◌}
use native.Mathlib.Omega.{arith}
use mathlib.Core.Path.{◌≡◌, refl, sym}
use mathlib.Core.List.{List}
use mathlib.Core.Bool.{Bool, true, false, ◌&&◌}
use lib.ListN.{length, get_or, get_or-eq_default}
use lib.Dec.{eqb}
use borrow.Author.Tests.{eqb-true, eq-eqb}
use Rattle.logic.specs.Each.{each_below}
use Rattle.logic.proofs.Each.{each_passes, all_pass}
use Rattle.image_header.specs.Numbers.{numbers_of, header_from}
use Rattle.image_header.specs.Rows.{header_count, first_same, same_header, same_landings}
use Rattle.image_header.specs.declared.Header.{Header}

-- a header is that of its numbers
pub header_of_numbers : (h : Header) → header_from (numbers_of h) ≡ h
header_of_numbers h = refl

-- each number of a list is one of its header's
pub numbers_of_header : (ns : List ℕ) (k : ℕ) → k < header_count → get_or (numbers_of (header_from ns)) k 0 ≡ get_or ns k 0
numbers_of_header ns zero l = refl
numbers_of_header ns (suc zero) l = refl
numbers_of_header ns (suc (suc zero)) l = refl
numbers_of_header ns (suc (suc (suc zero))) l = refl
numbers_of_header ns (suc (suc (suc (suc zero)))) l = refl
numbers_of_header ns (suc (suc (suc (suc (suc zero))))) l = refl
numbers_of_header ns (suc (suc (suc (suc (suc (suc zero)))))) l = refl
numbers_of_header ns (suc (suc (suc (suc (suc (suc (suc k))))))) l = absurd (omega arith)

-- lists with the same numbers have the same header
pub same_numbers : (ns ms : List ℕ) → ((k : ℕ) → k < header_count → get_or ns k 0 ≡ get_or ms k 0) → header_from ns ≡ header_from ms
same_numbers ns ms e =
    let f = e 0 (omega arith) in
    let m = e 1 (omega arith) in
    let b = e 2 (omega arith) in
    let c = e 3 (omega arith) in
    let s = e 4 (omega arith) in
    let k = e 5 (omega arith) in
    let l = e 6 (omega arith) in
    λ ι.
    record { format = f ι; drive = record { model = m ι; b = b ι; c = c ι }; start = s ι; count = k ι; landings = l ι }

-- ---- the same numbers, as 17 tests it

first_is : (n : ℕ) (ns ms : List ℕ) → first_same n ns ms ≡ true → (k : ℕ) → k < n → get_or ns k 0 ≡ get_or ms k 0
first_is n ns ms e k l = eqb-true (get_or ns k 0) (get_or ms k 0) (each_passes (λ (j : ℕ). eqb (get_or ns j 0) (get_or ms j 0)) n e k l)

is_first : (n : ℕ) (ns : List ℕ) → first_same n ns ns ≡ true
is_first n ns = all_pass (λ (k : ℕ). eqb (get_or ns k 0) (get_or ns k 0)) n (λ k l. eq-eqb (get_or ns k 0) (get_or ns k 0) refl)

-- past the ends of both there is nothing that differs
pub first_past : (ns ms : List ℕ) (n d : ℕ) → length ns ≤ n → length ms ≤ n → first_same n ns ms ≡ first_same (n + d) ns ms
unfolding each_below
first_past ns ms n zero a b = let q : n + 0 ≡ n = omega arith in rw q
first_past ns ms n (suc d) a b =
    let q : n + suc d ≡ suc (n + d) = omega arith in
    let e : get_or ns (n + d) 0 ≡ 0 = get_or-eq_default ns 0 (omega arith) in
    let f : get_or ms (n + d) 0 ≡ 0 = get_or-eq_default ms 0 (omega arith) in
    rw (q, e, f, ← first_past ns ms n d a b) (sym (and_true (first_same n ns ms)))
  where
    and_true : (t : Bool) → (t && true) ≡ t
    and_true true = refl
    and_true false = refl

pub same_is : (a b : Header) → same_header a b ≡ true → a ≡ b
unfolding same_header
same_is a b e = same_numbers (numbers_of a) (numbers_of b) (first_is header_count (numbers_of a) (numbers_of b) e)

pub is_same : (a : Header) → same_header a a ≡ true
unfolding same_header
is_same a = is_first header_count (numbers_of a)

pub same_landings_is : (n : ℕ) (l m : List ℕ) → same_landings n l m ≡ true → (k : ℕ) → k < n → get_or l k 0 ≡ get_or m k 0
unfolding same_landings
same_landings_is n l m e k u = first_is n l m e k u

pub is_same_landings : (n : ℕ) (l : List ℕ) → same_landings n l l ≡ true
unfolding same_landings
is_same_landings n l = is_first n l

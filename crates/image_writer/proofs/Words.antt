-- The words of bytes, two to each: how many there are, which bytes each has, and that words and bytes give each other back.
use mathlib.Core.Path.{◌≡◌, refl, sym, ap, ◌∙◌}
use mathlib.Core.List.{List, [], ◌∷◌, ◌++◌, append_assoc}
use mathlib.Core.Bool.{◌&&◌}
use Prim.Native.Nat.{ℕ, zero, suc, ◌+◌, ◌*◌, ◌/◌, ◌%◌, ◌<◌, ◌≤◌}
use native.Mathlib.Omega.{arith}
use lib.ListN.{length, get_or, length-append, get_or-append, get_or-eq_default}
use lib.Seq.{ext_get_or, get_or_at}
use lib.Dec.{eqb, leb}
use borrow.Author.Tests.{eq-eqb, le-leb}
use Rattle.logic.proofs.Choice.{test}
use Rattle.logic.proofs.Lists.{◌◂◌}
use Rattle.limits.specs.Limits.{most_landings}
use Rattle.image_header.specs.Rows.{header_count, landing_count_row}
use Rattle.num_le.specs.LittleEndian.{le_number}
use Rattle.num_le.proofs.LittleEndian.{read_back}
use Rattle.image_writer.specs.Writer.{words_of, word_bytes, landings_given, with_landings}

-- two bytes to each word; one that is left over names none
pub words_long : (bytes : List ℕ) → length (words_of bytes) ≡ length bytes / 2
unfolding words_of
words_long [] = refl
words_long (low ∷ []) = refl
words_long (low ∷ high ∷ bytes) = let e = words_long bytes in omega arith

pub word_at : (bytes : List ℕ) (i : ℕ) → 2 * i + 1 < length bytes
    → get_or (words_of bytes) i 0 ≡ le_number (get_or bytes (2 * i) 0 ∷ get_or bytes (2 * i + 1) 0 ∷ [])
unfolding words_of
word_at [] i u = absurd (omega arith)
word_at (low ∷ []) i u = absurd (omega arith)
word_at (low ∷ high ∷ bytes) zero u = refl
word_at (low ∷ high ∷ bytes) (suc i) u =
    let p : 2 * suc i ≡ suc (suc (2 * i)) = omega arith in
    let q : suc (suc (2 * i)) + 1 ≡ suc (suc (2 * i + 1)) = omega arith in
    rw (p, q) (word_at bytes i (omega arith))

pub word_past : (bytes : List ℕ) (i : ℕ) → length bytes ≤ 2 * i + 1 → get_or (words_of bytes) i 0 ≡ 0
word_past bytes i u = get_or-eq_default (words_of bytes) 0 (let e = words_long bytes in omega arith)

-- ---- the bytes of words

pub bytes_long : (ws : List ℕ) → length (word_bytes ws) ≡ 2 * length ws
unfolding word_bytes
bytes_long [] = refl
bytes_long (w ∷ ws) = let e = bytes_long ws in omega arith

-- words are read back from their bytes
pub words_back : (ws : List ℕ) → ((k : ℕ) → get_or ws k 0 < 65536) → words_of (word_bytes ws) ≡ ws
unfolding words_of word_bytes
words_back [] h = refl
words_back (w ∷ ws) h = read_back 2 w (h 0) ◂ words_back ws (λ k. h (suc k))

-- ---- how many are given

-- where no more are counted than the most, there are as many as counted
pub count_given : (bytes : List ℕ) → landings_given (length bytes) ≤ most_landings → length (words_of bytes) ≡ landings_given (length bytes)
count_given bytes u =
    let e = words_long bytes in
    test (eqb (length bytes % 2) 0 && leb (length bytes) (2 * most_landings))
    (λ t. rw t (words_long bytes))
    (λ t. let q : most_landings + 1 ≤ most_landings = rw t at u in absurd (omega arith))

pub count_of_words : (ws : List ℕ) → length ws ≤ most_landings → landings_given (length (word_bytes ws)) ≡ length ws
count_of_words ws u =
    let e = bytes_long ws in
    let even : length (word_bytes ws) % 2 ≡ 0 = omega arith in
    rw (eq-eqb (length (word_bytes ws) % 2) 0 even, le-leb (length (word_bytes ws)) (2 * most_landings) (omega arith)) (omega arith)

-- a header's numbers, of which the landing count is the last
pub with_count : (ns : List ℕ) → length ns ≡ landing_count_row → (count : ℕ)
    → get_or ns 0 0 ∷ get_or ns 1 0 ∷ get_or ns 2 0 ∷ get_or ns 3 0 ∷ get_or ns 4 0 ∷ get_or ns 5 0 ∷ count ∷ [] ≡ ns ++ (count ∷ [])
with_count ns long count =
    ext_get_or 0 (get_or ns 0 0 ∷ get_or ns 1 0 ∷ get_or ns 2 0 ∷ get_or ns 3 0 ∷ get_or ns 4 0 ∷ get_or ns 5 0 ∷ count ∷ []) (ns ++ (count ∷ []))
    (let e = length-append ns (count ∷ []) in omega arith)
    same
  where
    front : (k : ℕ) → k < landing_count_row → get_or ns k 0 ≡ get_or (ns ++ (count ∷ [])) k 0
    front k u = sym (get_or-append ns (count ∷ []) 0 k (omega arith))

    same : (k : ℕ) → k < header_count
        → get_or (get_or ns 0 0 ∷ get_or ns 1 0 ∷ get_or ns 2 0 ∷ get_or ns 3 0 ∷ get_or ns 4 0 ∷ get_or ns 5 0 ∷ count ∷ []) k 0 ≡ get_or (ns ++ (count ∷ [])) k 0
    same zero u = front 0 (omega arith)
    same (suc zero) u = front 1 (omega arith)
    same (suc (suc zero)) u = front 2 (omega arith)
    same (suc (suc (suc zero))) u = front 3 (omega arith)
    same (suc (suc (suc (suc zero)))) u = front 4 (omega arith)
    same (suc (suc (suc (suc (suc zero))))) u = front 5 (omega arith)
    same (suc (suc (suc (suc (suc (suc zero)))))) u = sym (get_or_at ns count [] 0 landing_count_row long)
    same (suc (suc (suc (suc (suc (suc (suc k))))))) u = absurd (omega arith)

-- the landing count, then the landing blocks
pub with_landings_lem : (numbers landings given : List ℕ) → given ≡ numbers ++ (landings_given (length landings) ∷ [])
    → given ++ words_of landings ≡ with_landings numbers landings
with_landings_lem numbers landings given e =
    ap (λ (l : List ℕ). l ++ words_of landings) e ∙ append_assoc numbers (landings_given (length landings) ∷ []) (words_of landings)

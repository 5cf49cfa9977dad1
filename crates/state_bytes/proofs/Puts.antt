-- Bytes put one after the other, and for each element of a list.
use mathlib.Core.Path.{◌≡◌, refl, sym, ap, ◌∙◌}
use Prim.Native.Nat.{ℕ, zero, suc, ◌+◌, ◌*◌, ◌<◌, ◌≤◌}
use native.Mathlib.Omega.{arith}
use native.Mathlib.Nat.{add-zero, mul-suc}
use native.Mathlib.Numerals.{add-one}
use mathlib.Core.List.{List, [], ◌∷◌, ◌++◌, append-nil, append_assoc}
use lib.ListN.{length, get_or, set, take, drop, length-append, length-set}
use lib.Seq.{get_or-set_same, get_or-set_other, drop-length, sets, length-sets, sets-eq, drop-drop}
use borrow.Rule.Slice.PartMut.{put_mid}
use Rattle.logic.proofs.Has.{Has, head, tail, nil, cons}
use Rattle.num_le.specs.LittleEndian.{le_bytes}
use Rattle.state_bytes.specs.Bytes.{puts, concatenated}

puts_sets : (l : List ℕ) (i : ℕ) (vs : List ℕ) → puts l i vs ≡ sets l i vs
unfolding puts
puts_sets l i [] = refl
puts_sets l i (v ∷ vs) = puts_sets (set l i v) (i + 1) vs ∙ ap (λ (k : ℕ). sets (set l i v) k vs) (add-one i)

pub length_puts : (l : List ℕ) (i : ℕ) (vs : List ℕ) → length (puts l i vs) ≡ length l
length_puts l i vs = ap length (puts_sets l i vs) ∙ length-sets l i vs

-- of what a function leaves
pub puts_long : (l s : List ℕ) (i : ℕ) (vs : List ℕ) → l ≡ puts s i vs → length l ≡ length s
puts_long l s i vs e = ap length e ∙ length_puts s i vs

puts_append : (l : List ℕ) (i : ℕ) (vs ws : List ℕ) → puts l i (vs ++ ws) ≡ puts (puts l i vs) (i + length vs) ws
unfolding puts
puts_append l i [] ws = rw add-zero
puts_append l i (v ∷ vs) ws = puts_append (set l i v) (i + 1) vs ws ∙ ap (λ (k : ℕ). puts (puts (set l i v) (i + 1) vs) k ws) (omega arith)

-- ws put right behind vs
pub behind : (l : List ℕ) (at n : ℕ) (vs ws : List ℕ) → length vs ≡ n → puts (puts l at vs) (at + n) ws ≡ puts l at (vs ++ ws)
behind l at n vs ws h = sym (puts_append l at vs ws ∙ ap (λ (k : ℕ). puts (puts l at vs) (at + k) ws) h)

-- the same of what a first and a second function leave
pub next : (s l l' : List ℕ) (at n p : ℕ) (vs ws : List ℕ) → l ≡ puts s at vs → length vs ≡ n → p ≡ at + n → l' ≡ puts l p ws → l' ≡ puts s at (vs ++ ws)
next s l l' at n p vs ws e h q g =
    g ∙ ap (λ (k : ℕ). puts l k ws) q ∙ ap (λ (x : List ℕ). puts x (at + n) ws) e ∙ behind s at n vs ws h

-- ---- the bytes of a number, one by one

pub two : (s l l' b : List ℕ) (at v : ℕ) → b ≡ le_bytes 2 v → l ≡ set s at (get_or b 0 0) → l' ≡ set l (at + 1) (get_or b 1 0) → l' ≡ puts s at (le_bytes 2 v)
unfolding puts
two s l l' b at v e f g = rw (g, f, e)

pub four : (s l l' l'' l''' b : List ℕ) (at v : ℕ) → b ≡ le_bytes 4 v → l ≡ set s at (get_or b 0 0) → l' ≡ set l (at + 1) (get_or b 1 0)
    → l'' ≡ set l' (at + 1 + 1) (get_or b 2 0) → l''' ≡ set l'' (at + 1 + 1 + 1) (get_or b 3 0) → l''' ≡ puts s at (le_bytes 4 v)
unfolding puts
four s l l' l'' l''' b at v e f g h i = rw (i, h, g, f, e)

-- ---- over all of a list

-- bytes put over a list of their length are what stands there
pub over : (l vs : List ℕ) → length vs ≡ length l → puts l 0 vs ≡ vs
over l vs h =
    let z : 0 + length vs ≡ length l = omega arith in
    puts_sets l 0 vs ∙ sets-eq vs l 0 (omega arith) ∙ ap (λ (j : ℕ). vs ++ drop j l) z ∙ ap (λ (r : List ℕ). vs ++ r) (drop-length l) ∙ append-nil vs

-- a part of a list that is written over
pub puts_part : (l : List ℕ) (at n : ℕ) (vs : List ℕ) → n ≡ length vs → at + length vs ≤ length l → put_mid at n l vs ≡ puts l at vs
puts_part l at n vs e h =
    ap (λ (r : List ℕ). take at l ++ (vs ++ r)) (drop-drop n at l ∙ ap (λ (k : ℕ). drop (at + k) l) e)
    ∙ sym (puts_sets l at vs ∙ sets-eq vs l at h ∙ append_assoc (take at l) vs (drop (at + length vs) l))

-- ---- runs

pub concatenated_none : (f : ℕ → List ℕ) (s : List ℕ) (at : ℕ) → s ≡ puts s at (concatenated 0 f)
unfolding puts concatenated
concatenated_none f s at = refl

module _ (f : ℕ → List ℕ) (m : ℕ) (each : (k : ℕ) → length (f k) ≡ m) where
  pub length_concatenated : (n : ℕ) → length (concatenated n f) ≡ m * n
  unfolding concatenated
  length_concatenated zero = omega arith
  length_concatenated (suc n) = length-append (concatenated n f) (f n) ∙ let a = each n in let b = length_concatenated n in let g = mul-suc m n in omega arith

  -- a turn of a loop that puts the bytes of each element
  pub concatenated_more : (s : List ℕ) (at i : ℕ) (l : List ℕ) → l ≡ puts s at (concatenated i f)
      → puts l (at + m * i) (f i) ≡ puts s at (concatenated (i + 1) f)
  unfolding concatenated
  concatenated_more s at i l e =
      ap (λ (x : List ℕ). puts x (at + m * i) (f i)) e
      ∙ behind s at (m * i) (concatenated i f) (f i) (length_concatenated i)
      ∙ ap (λ (k : ℕ). puts s at (concatenated k f)) (sym (add-one i))

-- all turns
pub concatenated_all : (f : ℕ → List ℕ) (s : List ℕ) (at i n : ℕ) (l : List ℕ) → i ≤ n → n ≤ i → l ≡ puts s at (concatenated i f)
    → l ≡ puts s at (concatenated n f)
concatenated_all f s at i n l a b e = let g : i ≡ n = omega arith in rw g at e

-- ---- where they stand already, and behind them

set_same : (l : List ℕ) (k : ℕ) → set l k (get_or l k 0) ≡ l
set_same [] k = refl
set_same (x ∷ l) zero = refl
set_same (x ∷ l) (suc k) = ap (λ (m : List ℕ). x ∷ m) (set_same l k)

-- bytes put where they stand change nothing
pub puts_same : (vs l : List ℕ) (at : ℕ) → Has l at vs → puts l at vs ≡ l
unfolding puts
puts_same [] l at h = refl
puts_same (v ∷ vs) l at h =
    let e : set l at v ≡ l = ap (set l at) (sym (head h)) ∙ set_same l at in
    ap (λ (m : List ℕ). puts m (at + 1) vs) e ∙ puts_same vs l (at + 1) (tail h)

-- what stands behind the bytes that are put stays
pub puts_behind : (vs l : List ℕ) (at k : ℕ) → at + length vs ≤ k → get_or (puts l at vs) k 0 ≡ get_or l k 0
unfolding puts
puts_behind [] l at k h = refl
puts_behind (v ∷ vs) l at k h =
    puts_behind vs (set l at v) (at + 1) k (omega arith) ∙ get_or-set_other l at k v 0 (λ q. absurd (omega arith))

pub stays_behind : (vs l : List ℕ) (at : ℕ) (xs : List ℕ) (p : ℕ) → at + length vs ≤ p → Has l p xs → Has (puts l at vs) p xs
stays_behind vs l at xs p h x = record { is = λ k lt. puts_behind vs l at (p + k) (omega arith) ∙ x.is k lt }

puts_before : (vs l : List ℕ) (at k : ℕ) → k < at → get_or (puts l at vs) k 0 ≡ get_or l k 0
unfolding puts
puts_before [] l at k h = refl
puts_before (v ∷ vs) l at k h =
    puts_before vs (set l at v) (at + 1) k (omega arith) ∙ get_or-set_other l at k v 0 (λ q. absurd (omega arith))

-- bytes that are put stand there, where there is room
pub puts_has : (vs l : List ℕ) (at : ℕ) → at + length vs ≤ length l → Has (puts l at vs) at vs
unfolding puts
puts_has [] l at h = nil
puts_has (v ∷ vs) l at h =
    let e = length-set l at v in
    cons (puts_before vs (set l at v) (at + 1) at (omega arith) ∙ get_or-set_same l at v 0 (omega arith))
    (puts_has vs (set l at v) (at + 1) (omega arith))

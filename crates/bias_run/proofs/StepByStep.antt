-- The steps of a list: where one stands whole at the front, those behind it are the steps of what is left of the list, else there are none. And the buffer
-- after a load and the steps, by the number that the load answers; where that is 0, the theorem of bias.
use Prim.Native.Nat.{ℕ, zero, suc, ◌+◌, ◌*◌, ◌<◌, ◌≤◌}
use mathlib.Core.Path.{◌≡◌, refl, sym, ap, ◌∙◌}
use mathlib.Core.List.{List, [], ◌∷◌}
use native.Mathlib.Omega.{arith}
use lib.ListN.{length, get_or, take, drop}
use borrow.Author.Tests.{le-leb, lt-leb, eq-eqb, ne_eqb}
use Rattle.std.proofs.lemmas.List.{get_or-drop, get_or-take, drop-drop, length-drop}
use Rattle.std.specs.List.{IsSplitAt}
use Rattle.num_le.specs.LittleEndian.{Bytes}
use Rattle.logic.proofs.Choice.{by}
use Rattle.machine.specs.Inputs.{inputs_of}
use Rattle.state_bytes.specs.Bytes.{le_number_at}
use Rattle.bias_results.specs.declared.BiasVerdict.{BiasVerdict}
use Rattle.bias.specs.Load.{load}
use Rattle.proved_demands.specs.Run.{buffer_after}
use Rattle.proved_demands.specs.Theorem.{Run}
use Rattle.proved_demands.proofs.Runs.{every_run}
use Rattle.bias_run.specs.Steps.{head_length, length_at, next_at, step_at, steps_from, steps_of, after_run}

-- ---- at a place

-- where no step stands whole there is none
pub none_from : (s : List ℕ) (at k : ℕ) → length s < next_at s at → steps_from s at k ≡ []
unfolding steps_from
none_from s at zero h = refl
none_from s at (suc k) h = rw (lt-leb (next_at s at) (length s) h)

-- where one stands whole it is the first
pub one_from : (s : List ℕ) (at k : ℕ) → next_at s at ≤ length s → steps_from s at (suc k) ≡ step_at s at ∷ steps_from s (next_at s at) k
unfolding steps_from
one_from s at k h = rw (le-leb (next_at s at) (length s) h)

-- ---- place a of what is behind n bytes is place p

number_behind : (s : List ℕ) (n w p a : ℕ) → p ≡ n + a → le_number_at w (drop n s) a ≡ le_number_at w s p
number_behind s n zero p a q = refl
number_behind s n (suc w) p a q =
    let first : get_or (drop n s) a 0 ≡ get_or s p 0 = rw (get_or-drop n s a 0, q) in
    let more = number_behind s n w (p + 1) (a + 1) (omega arith) in λ ι. first ι + 256 * more ι

length_behind : (s : List ℕ) (n p a : ℕ) → p ≡ n + a → length_at (drop n s) a ≡ length_at s p
length_behind s n p a q = number_behind s n 2 (p + 7) (a + 7) (omega arith)

byte_behind : (s : List ℕ) (n p a : ℕ) → p ≡ n + a → get_or (drop n s) a 0 ≡ get_or s p 0
byte_behind s n p a q = rw (get_or-drop n s a 0, q)

levels_behind : (s : List ℕ) (n p a : ℕ) → p ≡ n + a → drop (a + head_length) (drop n s) ≡ drop (p + head_length) s
levels_behind s n p a q = let e : n + (a + head_length) ≡ p + head_length = omega arith in rw (drop-drop (a + head_length) n s, e)

step_behind : (s : List ℕ) (n p a : ℕ) → p ≡ n + a → step_at (drop n s) a ≡ step_at s p
unfolding step_at
step_behind s n p a q =
    let task = number_behind s n 4 p a q in
    let long = length_behind s n p a q in
    let levels = levels_behind s n p a q in
    let start = byte_behind s n (p + 4) (a + 4) (omega arith) in
    let ramp_ended = byte_behind s n (p + 5) (a + 5) (omega arith) in
    let in_window = byte_behind s n (p + 6) (a + 6) (omega arith) in
    λ ι. inputs_of (task ι) (take (long ι) (levels ι)) (start ι) (ramp_ended ι) (in_window ι)

-- k and m, each as many as there can still be
behind : (s : List ℕ) (n p a k m : ℕ) → p ≡ n + a → n ≤ length s → length s ≤ p + k → length s ≤ p + m → steps_from s p k ≡ steps_from (drop n s) a m
unfolding steps_from
behind s n p a zero m q w h g = sym (none_from (drop n s) a m (omega (arith, length-drop n s)))
behind s n p a (suc k) zero q w h g = none_from s p (suc k) (omega arith)
behind s n p a (suc k) (suc m) q w h g =
    let long = length_behind s n p a q in
    let left = length-drop n s in
    by (length s) (next_at s p)
    (λ b. none_from s p (suc k) b ∙ sym (none_from (drop n s) a (suc m) (omega arith)))
    (λ b.
    let rest = behind s n (next_at s p) (next_at (drop n s) a) k m (omega arith) w (omega arith) (omega arith) in
    one_from s p k b ∙ (λ ι. sym (step_behind s n p a q) ι ∷ rest ι) ∙ sym (one_from (drop n s) a m (omega arith)))

-- ---- at the front

-- none, where the first does not stand whole
pub none_whole : (s : List ℕ) → length s < next_at s 0 → steps_of s ≡ []
unfolding steps_of
none_whole s h = none_from s 0 (length s) h

pub one_more : (s : List ℕ) (n k : ℕ) → n ≡ next_at s 0 → n ≤ length s → length s ≡ k → steps_from s 0 k ≡ step_at s 0 ∷ steps_of (drop n s)
unfolding steps_of
one_more s n zero q h e = absurd (omega arith)
one_more s n (suc k) q h e =
    let left = length-drop n s in
    let rest = behind s n (next_at s 0) 0 k (length (drop n s)) (omega arith) h (omega arith) (omega arith) in
    one_from s 0 k (omega arith) ∙ (λ ι. step_at s 0 ∷ rest ι)

one_whole : (s : List ℕ) (n : ℕ) → n ≡ next_at s 0 → n ≤ length s → steps_of s ≡ step_at s 0 ∷ steps_of (drop n s)
unfolding steps_of
one_whole s n q h = one_more s n (length s) q h refl

number_ahead : (s : List ℕ) (n w at : ℕ) → at + w ≤ n → le_number_at w (take n s) at ≡ le_number_at w s at
number_ahead s n zero at h = refl
number_ahead s n (suc w) at h =
    let first = get_or-take n s at 0 (omega arith) in
    let more = number_ahead s n w (at + 1) (omega arith) in λ ι. first ι + 256 * more ι

module _ (s head behind_head : List ℕ) (cut : IsSplitAt s head_length head behind_head) where
  -- its length is that in the head
  head_length_is : length_at head 0 ≡ length_at s 0
  head_length_is = rw cut.1 (number_ahead s head_length 2 7 (omega arith))

  -- too few bytes for the levels
  pub levels_short : (n : ℕ) → n ≡ length_at head 0 → length behind_head < n → steps_of s ≡ []
  levels_short n q h = let e = head_length_is in none_whole s (omega (arith, cut.4))

  -- the step, and what is behind it
  pub split_front : (n : ℕ) (levels rest : List ℕ) → n ≡ length_at head 0 → IsSplitAt behind_head n levels rest
      → steps_of s ≡ inputs_of (le_number_at 4 head 0) levels (get_or head 4 0) (get_or head 5 0) (get_or head 6 0) ∷ steps_of rest
  unfolding step_at
  split_front n levels rest q tail =
      let long : n ≡ length_at s 0 = q ∙ head_length_is in
      let task : le_number_at 4 s 0 ≡ le_number_at 4 head 0 = rw cut.1 (sym (number_ahead s head_length 4 0 (omega arith))) in
      let start : get_or s 4 0 ≡ get_or head 4 0 = rw cut.1 (sym (get_or-take head_length s 4 0 (omega arith))) in
      let ramp_ended : get_or s 5 0 ≡ get_or head 5 0 = rw cut.1 (sym (get_or-take head_length s 5 0 (omega arith))) in
      let in_window : get_or s 6 0 ≡ get_or head 6 0 = rw cut.1 (sym (get_or-take head_length s 6 0 (omega arith))) in
      let these : take (length_at s 0) (drop head_length s) ≡ levels = rw (tail.1, cut.2, long) in
      let others : drop (head_length + n) s ≡ rest = rw (tail.2, cut.2, drop-drop n head_length s) in
      one_whole s (head_length + n) (omega arith) (omega (arith, cut, tail))
      ∙ (λ ι. inputs_of (task ι) (these ι) (start ι) (ramp_ended ι) (in_window ι) ∷ steps_of (others ι))

-- ---- a load with the answer r, and the steps

module _ (image : List ℕ) (n : ℕ) (b steps : List ℕ) (r : BiasVerdict) (e : r ≡ (load image n b).verdict) where
  number_is : r.number ≡ (load image n b).verdict.number
  number_is = ap (λ (v : BiasVerdict). v.number) e

  pub refused : (r.number ≡ 0 → ⊥) → (load image n b).buffer ≡ after_run image n b steps
  unfolding after_run
  refused d = rw (ne_eqb (load image n b).verdict.number 0 (λ z. d (number_is ∙ z)))

  pub accepted : r.number ≡ 0 → buffer_after image (load image n b).buffer (steps_of steps) ≡ after_run image n b steps
  unfolding after_run
  accepted z = rw (eq-eqb (load image n b).verdict.number 0 (sym number_is ∙ z))

  -- the theorem, of these steps
  pub theorem : Bytes image → r.number ≡ 0 → Run image (load image n b).buffer (steps_of steps)
  theorem bytes z = every_run image n b bytes (sym number_is ∙ z) (steps_of steps)

-- ---- an example: a step of task 258 with two levels, a step of task 1 with none, and a third step that does not stand whole

example : steps_of (2 ∷ 1 ∷ 0 ∷ 0 ∷ 5 ∷ 6 ∷ 8 ∷ 2 ∷ 0 ∷ 7 ∷ 9 ∷ 1 ∷ 0 ∷ 0 ∷ 0 ∷ 3 ∷ 4 ∷ 10 ∷ 0 ∷ 0 ∷ 1 ∷ 0 ∷ 0 ∷ 0 ∷ 0 ∷ 0 ∷ 0 ∷ 1 ∷ 0 ∷ [])
    ≡ inputs_of 258 (7 ∷ 9 ∷ []) 5 6 8 ∷ inputs_of 1 [] 3 4 10 ∷ []
unfolding steps_of steps_from step_at
example = refl

-- A run by its load: refused or accepted, with marks of the length asked for; digits that are decoded into a buffer of some room; and a record by itself.
use Prim.Native.Nat.{ℕ, zero, suc, ◌+◌, ◌*◌, ◌/◌, ◌<◌, min}
use native.Mathlib.Omega.{arith}
use native.Mathlib.Numerals.{add-one}
use native.Mathlib.Nat.{add-zero}
use mathlib.Core.Path.{◌≡◌, sym, ap, ap₂, ◌∙◌}
use mathlib.Core.List.{List, ◌++◌}
use lib.ListN.{length, get_or, set, take, drop, replicate}
use borrow.Author.Tests.{eq-eqb, ne_eqb}
use Rattle.std.proofs.lemmas.List.{get_or-take, get_or-drop, drop-drop}
use Rattle.std.proofs.Math.Seq.{take-append_seam, drop-append_seam}
use Rattle.limits.specs.Limits.{cells, marks_length, state_length}
use Rattle.text_verdict.specs.Input.{input_length}
use Rattle.bias.specs.Load.{Load, load}
use Rattle.text_hex.specs.Hex.{hex_bytes}
use Rattle.text_hex.proofs.Bytes.{front}
use Rattle.manual.specs.Run.{record_length, high, with_byte, recorded, after, after_load, after_example, fitting, space_of, behind, example}

module _ (image steps : List ℕ) where
  pub refused : (l : Load) → (l.verdict.number ≡ 0 → ⊥) → l.buffer ≡ after_load image steps l
  unfolding after_load
  refused l d = rw (ne_eqb l.verdict.number 0 d)

  pub accepted : (l : Load) → l.verdict.number ≡ 0 → after image steps (length steps / record_length) l.buffer ≡ after_load image steps l
  unfolding after_load
  accepted l e = rw (eq-eqb l.verdict.number 0 e)

  pub run_is : (n : ℕ) (b : List ℕ) → marks_length ≡ n → after_load image steps (load image n b) ≡ after_example image steps b
  unfolding after_example
  run_is n b e = ap (λ (m : ℕ). after_load image steps (load image m b)) (sym e)

-- the front of a buffer into which digits were decoded
pub decoded_front : (digits out space : List ℕ) (room n : ℕ) → room ≡ length space → n ≡ min (length digits / 2) (length space)
    → out ≡ hex_bytes digits n ++ drop n space
    → take n out ≡ fitting room digits
unfolding fitting
decoded_front digits out space room n r e o =
    ap (take n) o ∙ front digits n (drop n space) ∙ ap (hex_bytes digits) (e ∙ ap (min (length digits / 2)) (sym r))

-- an example, by what was decoded on both sides of its space
pub example_is : (line i s : List ℕ) (k : ℕ) → k ≡ space_of line → i ≡ fitting input_length (take k line) → s ≡ fitting 4096 (behind line k)
    → after_example i s (replicate state_length 0) ≡ example line
unfolding example
example_is line i s k e f g =
    let x = f ∙ ap (λ (j : ℕ). fitting input_length (take j line)) e in
    let y = g ∙ ap (λ (j : ℕ). fitting 4096 (behind line j)) e in
    λ ι. after_example (x ι) (y ι) (replicate state_length 0)

-- inputs made high one after the other: those that the n bytes from a place on name
unfoldable pub highs : List ℕ → ℕ → ℕ → List ℕ
highs steps at zero = replicate cells 0
highs steps at (suc n) = high steps (at + n) (highs steps at n)

pub one_high : (entry l : List ℕ) (k n : ℕ) → k < n → l ≡ highs entry 5 k → set l (get_or (take n (drop 5 entry)) k 0) 1 ≡ highs entry 5 (k + 1)
unfolding highs
one_high entry l k n h e =
    let pin = get_or-take n (drop 5 entry) k 0 h ∙ get_or-drop 5 entry k 0 in
    rw add-one (ap₂ (λ (x : List ℕ) (p : ℕ). set x p 1) e pin)

-- a record cut out of the steps does what it does among them
pub cut_out : (image steps b : List ℕ) (at : ℕ) → recorded image (take record_length (drop at steps)) 0 b ≡ recorded image steps at b
unfolding recorded with_byte
cut_out image steps b at =
    let two : at + 2 ≡ at + 1 + 1 = omega arith in
    rw (
      read 0 (omega arith),
      read 1 (omega arith),
      read 2 (omega arith),
      read 3 (omega arith),
      read 4 (omega arith),
      read 5 (omega arith),
      read 6 (omega arith),
      read 7 (omega arith),
      read 8 (omega arith),
      add-zero at,
      two,
    )
  where
    read : (k : ℕ) → k < record_length → get_or (take record_length (drop at steps)) k 0 ≡ get_or steps (at + k) 0
    read k l = get_or-take record_length (drop at steps) k 0 l ∙ get_or-drop at steps k 0

-- the next record, and what is left behind it
pub next_record : (steps entry rest : List ℕ) (k : ℕ) → drop (record_length * k) steps ≡ entry ++ rest → length entry ≡ record_length
    → (entry ≡ take record_length (drop (record_length * k) steps)) × (rest ≡ drop (record_length * (k + 1)) steps)
next_record steps entry rest k e l =
    let next : record_length * k + record_length ≡ record_length * (k + 1) = omega arith in (
      sym (rw e (rw (← l) (take-append_seam entry rest))),
      sym (drop-append_seam entry rest) ∙ ap (λ (n : ℕ). drop n (entry ++ rest)) l ∙ ap (drop record_length) (sym e) ∙ drop-drop record_length (record_length * k) steps
          ∙ ap (λ (n : ℕ). drop n steps) next,
    )

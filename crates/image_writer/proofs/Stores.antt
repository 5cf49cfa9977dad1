-- Runs of stores into a list: one run after the other is one run, and a part of a slice that was filled is a run.
use mathlib.Core.Path.{◌≡◌, ap, ◌∙◌}
use Prim.Native.Nat.{ℕ, suc, ◌+◌, ◌≤◌}
use native.Mathlib.Omega.{arith}
use native.Mathlib.Nat.{add-zero}
use mathlib.Core.List.{List, [], ◌∷◌, ◌++◌, append_assoc}
use lib.ListN.{length, set, drop}
use lib.Seq.{sets, sets-eq, drop-drop}
use borrow.Rule.Slice.PartMut.{put_mid}

pub sets_append : (l : List ℕ) (i : ℕ) (vs ws : List ℕ) → sets (sets l i vs) (i + length vs) ws ≡ sets l i (vs ++ ws)
sets_append l i [] ws = rw add-zero
sets_append l i (v ∷ vs) ws =
    let e : i + suc (length vs) ≡ suc i + length vs = omega arith in
    ap (λ (k : ℕ). sets (sets l i (v ∷ vs)) k ws) e ∙ sets_append (set l i v) (suc i) vs ws

-- the same from the front, where the first run's length has a name
pub next_run : (l : List ℕ) (vs ws : List ℕ) (n : ℕ) → n ≡ length vs → sets (sets l 0 vs) n ws ≡ sets l 0 (vs ++ ws)
next_run l vs ws n e =
    let g : n ≡ 0 + length vs = omega arith in
    ap (λ (k : ℕ). sets (sets l 0 vs) k ws) g ∙ sets_append l 0 vs ws

-- a run from the front: it, and what stands behind it
pub from_front : (l vs : List ℕ) → length vs ≤ length l → sets l 0 vs ≡ vs ++ drop (length vs) l
from_front l vs h =
    sets-eq vs l 0 (omega arith) ∙ let e : 0 + length vs ≡ length vs = omega arith in ap (λ (k : ℕ). vs ++ drop k l) e

-- what a copy of s over the k bytes of d from index a on leaves of d, where it is as long as they are
pub filled : (d s x : List ℕ) (a k : ℕ) → a + length s ≤ length d → k ≡ length s → x ≡ s → put_mid a k d x ≡ sets d a s
filled d s x a k h q e = rw (e, q, sets-eq s d a h, drop-drop, append_assoc)

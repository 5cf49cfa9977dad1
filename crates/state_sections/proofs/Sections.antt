-- Sections taken apart and put together, and put one behind the other into a buffer: each by one induction over the list.
use mathlib.Core.Path.{◌≡◌, refl, sym, ap, ◌∙◌, subst}
use Prim.Native.Nat.{ℕ, zero, suc, ◌+◌, ◌-◌, ◌<◌, ◌≤◌}
use native.Mathlib.Omega.{arith}
use mathlib.Core.List.{List, [], ◌∷◌, ◌++◌}
use lib.ListN.{length, get_or, replicate, length-append, length-replicate, get_or-replicate}
use lib.Seq.{ext_get_or}
use Rattle.state_bytes.specs.Bytes.{puts}
use Rattle.state_bytes.proofs.Puts.{next, over}
use Rattle.logic.proofs.Has.{Has, whole, left, right, nil, join}
use Rattle.state_sections.specs.Sections.{joined, total, offset, filled}

-- the lengths that sections have
abbrev pub lens : List (List ℕ) → List ℕ
lens [] = []
lens (x ∷ xs) = length x ∷ lens xs

pub length_joined : (xs : List (List ℕ)) (ns : List ℕ) → lens xs ≡ ns → length (joined xs) ≡ total ns
unfolding joined
length_joined xs ns e = go xs ∙ ap total e
  where
    go : (ys : List (List ℕ)) → length (joined ys) ≡ total (lens ys)
    go [] = refl
    go (y ∷ ys) = length-append y (joined ys) ∙ (let h = go ys in omega arith)

-- at a place said otherwise
pub moved : {l x : List ℕ} (at at' : ℕ) → at ≡ at' → Has l at x → Has l at' x
moved {l} {x} at at' e h = subst (λ (k : ℕ). Has l k x) e h

-- ---- taken apart: section k stands at its place

pub section : (xs : List (List ℕ)) (ns : List ℕ) → lens xs ≡ ns → {l : List ℕ} {at : ℕ} → Has l at (joined xs) → (k : ℕ) → k < length xs
    → Has l (at + offset ns k) (get_or xs k [])
unfolding joined
section xs ns e {l} {at} h k lt = subst (λ (m : List ℕ). Has l (at + offset m k) (get_or xs k [])) e (go xs at h k lt)
  where
    go : (ys : List (List ℕ)) (p : ℕ) → Has l p (joined ys) → (j : ℕ) → j < length ys → Has l (p + offset (lens ys) j) (get_or ys j [])
    go [] p g j lt = absurd (omega arith)
    go (y ∷ ys) p g zero lt = moved p (p + 0) (omega arith) (left y (joined ys) g)
    go (y ∷ ys) p g (suc j) lt =
        moved (p + length y + offset (lens ys) j) (p + (length y + offset (lens ys) j)) (omega arith)
        (go ys (p + length y) (right y (joined ys) (length y) refl g) j (omega arith))

-- ---- put together: each section with its bytes, so far behind the place of the first

pub data Parts (l : List ℕ) (at : ℕ) : ℕ → List ℕ → List (List ℕ) → Type 0 where
  end : {off : ℕ} → Parts l at off [] []
  part : {off n : ℕ} {ns x : List ℕ} {xs : List (List ℕ)} → Has l (at + off) x → Parts l at (off + n) ns xs → Parts l at off (n ∷ ns) (x ∷ xs)

pub together : {l : List ℕ} {at off : ℕ} {ns : List ℕ} {xs : List (List ℕ)} → Parts l at off ns xs → lens xs ≡ ns → Has l (at + off) (joined xs)
unfolding joined
together end e = nil
together {at = at} (part {off = off} {n = n} {ns = ns} {x = x} {xs = xs} h p) e =
    let a : length x ≡ n = cc in
    let b : lens xs ≡ ns = cc in
    join x (joined xs) n a h (moved (at + (off + n)) (at + off + n) (omega arith) (together p b))

-- ---- written: one section put behind the other

pub data Chain (at : ℕ) : ℕ → List ℕ → List (List ℕ) → List ℕ → List ℕ → Type 0 where
  done : {off : ℕ} {l : List ℕ} → Chain at off [] [] l l
  put : {off n : ℕ} {ns x : List ℕ} {xs : List (List ℕ)} {l l' l'' : List ℕ} → l' ≡ puts l (at + off) x → Chain at (off + n) ns xs l' l''
      → Chain at off (n ∷ ns) (x ∷ xs) l l''

pub chained : {at off : ℕ} {ns : List ℕ} {xs : List (List ℕ)} {l l'' : List ℕ} → Chain at off ns xs l l'' → lens xs ≡ ns → l'' ≡ puts l (at + off) (joined xs)
unfolding joined puts
chained done e = refl
chained {at = at} (put {off} {n} {ns} {x} {xs} {l} {l'} {l''} h c) e =
    let a : length x ≡ n = cc in
    let b : lens xs ≡ ns = cc in
    next l l' l'' (at + off) n (at + (off + n)) x (joined xs) h a (omega arith) (chained c b)

-- the first section stands, and is put, at the place itself
pub at_first : {l x : List ℕ} {at : ℕ} → Has l at x → Has l (at + 0) x
at_first {at = at} h = moved at (at + 0) (omega arith) h

pub put_first : {at n : ℕ} {ns x : List ℕ} {xs : List (List ℕ)} {l l' l'' : List ℕ} → l' ≡ puts l at x → Chain at n ns xs l' l''
    → Chain at 0 (n ∷ ns) (x ∷ xs) l l''
put_first {at} {n} {ns} {x} {xs} {l} {l'} {l''} e c =
    put (e ∙ (let q : at ≡ at + 0 = omega arith in ap (λ (k : ℕ). puts l k x) q)) (let q : n ≡ 0 + n = omega arith in
    subst (λ (k : ℕ). Chain at k ns xs l' l'') q c)

-- all are put from the place on
pub chained_first : {at : ℕ} {ns : List ℕ} {xs : List (List ℕ)} {l l'' : List ℕ} → Chain at 0 ns xs l l'' → lens xs ≡ ns → l'' ≡ puts l at (joined xs)
chained_first {at} {ns} {xs} {l} {l''} c e = chained c e ∙ (let q : at + 0 ≡ at = omega arith in ap (λ (k : ℕ). puts l k (joined xs)) q)

-- ---- the whole buffer

module _ (n : ℕ) (ns : List ℕ) (xs : List (List ℕ)) (long : lens xs ≡ ns) (fits : total ns ≤ n) where
  pub length_filled : length (filled n ns xs) ≡ n
  unfolding filled
  length_filled =
      length-append (joined xs) (replicate (n - total ns) 0)
      ∙ (let a = length_joined xs ns long in let b = length-replicate {A = ℕ} (n - total ns) 0 in omega arith)

  -- section k of the buffer
  pub section_of : (k : ℕ) → k < length xs → Has (filled n ns xs) (0 + offset ns k) (get_or xs k [])
  unfolding filled
  section_of k lt = section xs ns long (left (joined xs) (replicate (n - total ns) 0) (whole (filled n ns xs))) k lt

  -- what is behind them is 0
  pub unused_of : (k : ℕ) → total ns ≤ k → k < n → get_or (filled n ns xs) k 0 ≡ 0
  unfolding filled
  unused_of k a b =
      let r = right (joined xs) (replicate (n - total ns) 0) (total ns) (length_joined xs ns long) (whole (filled n ns xs)) in
      let z : length {A = ℕ} (replicate (n - total ns) 0) ≡ n - total ns = length-replicate {A = ℕ} (n - total ns) 0 in
      (let q : k ≡ 0 + total ns + (k - total ns) = omega arith in ap (λ (j : ℕ). get_or (filled n ns xs) j 0) q)
      ∙ r.is (k - total ns) (omega arith)
      ∙ get_or-replicate {A = ℕ} (n - total ns) (k - total ns) 0 0 (omega arith)

  -- any list of the buffer's length into which the sections are put, and zeros behind them
  pub written_over : (z l l' : List ℕ) → length z ≡ n → Chain 0 0 ns xs z l → l' ≡ puts l (total ns) (replicate (n - total ns) 0) → l' ≡ filled n ns xs
  unfolding filled
  written_over z l l' e c k =
      let m = n - total ns in
      let zeros : List ℕ = replicate m 0 in
      let u : length zeros ≡ m = length-replicate {A = ℕ} m 0 in
      let a = length_joined xs ns long in
      let p : l' ≡ puts z 0 (joined xs ++ zeros) = next z l l' 0 (total ns) (total ns) (joined xs) zeros (chained c long) a (omega arith) k in
      p ∙ over z (joined xs ++ zeros) (length-append (joined xs) zeros ∙ (let h = e in omega arith))

  -- a list that has every section at its place, and zeros behind, is the buffer
  pub rebuilt : (b : List ℕ) → length b ≡ n → Parts b 0 0 ns xs → ((k : ℕ) → total ns ≤ k → k < n → get_or b k 0 ≡ 0) → filled n ns xs ≡ b
  unfolding filled
  rebuilt b e p z =
      let m = n - total ns in
      let zeros : List ℕ = replicate m 0 in
      let u : length zeros ≡ m = length-replicate {A = ℕ} m 0 in
      let r : Has b (0 + total ns) zeros =
      record { is = λ k lt. z (0 + total ns + k) (omega arith) (omega arith) ∙ sym (get_or-replicate {A = ℕ} m k 0 0 (omega arith)) } in
      let h = join (joined xs) zeros (total ns) (length_joined xs ns long) (together p long) r in
      let g = length_filled in
      ext_get_or 0 (filled n ns xs) b (omega arith)
      (λ k lt. sym ((let q : k ≡ 0 + k = omega arith in ap (λ (j : ℕ). get_or b j 0) q) ∙ h.is k lt))

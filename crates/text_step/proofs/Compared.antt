-- Nothing is told as changed exactly where every byte but the layout number's, the header's, the landing list's and the unused ones is the same.
use Prim.Native.Nat.{ℕ, zero, suc, ◌+◌, ◌*◌, ◌<◌, ◌≤◌}
use native.Mathlib.Omega.{arith}
use mathlib.Core.Path.{◌≡◌, refl}
use mathlib.Core.Bool.{Bool, true, ◌&&◌}
use mathlib.Core.List.{List}
use lib.ListN.{get_or}
use lib.Dec.{eqb, leb}
use borrow.Author.Tests.{eq-eqb, eqb-true, leb-true}
use Rattle.limits.specs.Limits.{bias, plc, mathematics, cells}
use Rattle.logic.proofs.Choice.{by, both}
use Rattle.state_layout.specs.Codecs.{task_length}
use Rattle.state_layout.specs.Layout.{variables_at, flags_at, outputs_at, layout_at, motion_at, notes_at, starts_at, tasks_at, task_place, unused_at}
use Rattle.logic.specs.Each.{each_below}
use Rattle.text_step.specs.Changes.{same, same_cells, same_axis, same_starts, unchanged}

pub and : {a b : Bool} → a ≡ true → b ≡ true → (a && b) ≡ true
and {a} {b} e f = rw (e, f)

module _ (a b : List ℕ) where
  -- the bytes from a place up to another are the same
  abbrev pub Equal : ℕ → ℕ → Type 0
  Equal from to = (i : ℕ) → from ≤ i → i < to → get_or a i 0 ≡ get_or b i 0

  pub joined : (x y z : ℕ) → Equal x y → Equal y z → Equal x z
  joined x y z e f i l h = by i y (λ u. e i l u) (λ u. f i u h)

  pub part : (x y from to : ℕ) → x ≤ from → to ≤ y → Equal x y → Equal from to
  part x y from to l h e i u v = e i (let w : x ≤ i = omega arith in w) (let w : i < y = omega arith in w)

  pub same_equal : (at n : ℕ) → same a b at n ≡ true → Equal at (at + n)
  unfolding each_below
  same_equal at zero t i l h = absurd (omega arith)
  same_equal at (suc n) t i l h =
      let t = both (same a b at n) (eqb (get_or a (at + n) 0) (get_or b (at + n) 0)) t in
      by i (at + n) (λ u. same_equal at n t.0 i l u)
      (λ u. let e : i ≡ at + n = omega arith in rw e (eqb-true (get_or a (at + n) 0) (get_or b (at + n) 0) t.1))

  pub equal_same : (at n : ℕ) → Equal at (at + n) → same a b at n ≡ true
  unfolding each_below
  equal_same at zero e = refl
  equal_same at (suc n) e =
      let l : at + n < at + suc n = omega arith in
      and (equal_same at n (part at (at + suc n) at (at + n) (omega arith) (omega arith) e))
      (eq-eqb (get_or a (at + n) 0) (get_or b (at + n) 0) (e (at + n) (omega arith) l))

  pub cells_equal : (at n k : ℕ) → same_cells a b at n k ≡ true → Equal at (at + n * k)
  unfolding each_below
  cells_equal at n zero t = λ i l h. absurd (omega arith)
  cells_equal at n (suc k) t =
      let t = both (same_cells a b at n k) (same a b (at + n * k) n) t in
      let e : at + n * suc k ≤ at + n * k + n = omega arith in
      joined at (at + n * k) (at + n * suc k) (cells_equal at n k t.0)
      (part (at + n * k) (at + n * k + n) (at + n * k) (at + n * suc k) (omega arith) e (same_equal (at + n * k) n t.1))

  pub equal_cells : (at n k : ℕ) → Equal at (at + n * k) → same_cells a b at n k ≡ true
  unfolding each_below
  equal_cells at n zero e = refl
  equal_cells at n (suc k) e =
      let l : at + n * k ≤ at + n * suc k = omega arith in
      let h : at + n * k + n ≤ at + n * suc k = omega arith in
      and (equal_cells at n k (part at (at + n * suc k) at (at + n * k) (omega arith) l e))
      (equal_same (at + n * k) n (part at (at + n * suc k) (at + n * k) (at + n * k + n) (omega arith) h e))

  -- some bytes, and what stands behind them
  pub split : (at n to : ℕ) (t : Bool) → ((same a b at n && t) ≡ true) → (t ≡ true → Equal (at + n) to) → Equal at to
  split at n to t e f = let h = both (same a b at n) t e in joined at (at + n) to (same_equal at n h.0) (f h.1)

  pub axis_equal : same_axis a b ≡ true → Equal motion_at starts_at
  unfolding same_axis
  axis_equal t =
      split motion_at 4 starts_at _ t (λ t.
      split (motion_at + 4) 2 starts_at _ t (λ t.
      split (motion_at + 6) 2 starts_at _ t (λ t.
      split (motion_at + 8) 2 starts_at _ t (λ t.
      split (motion_at + 10) 1 starts_at _ t (λ t. split notes_at 1 starts_at _ t (λ t. same_equal (notes_at + 1) 1 t))))))

  pub starts_equal : same_starts a b ≡ true → Equal starts_at tasks_at
  unfolding same_starts
  starts_equal t = split starts_at 2 tasks_at _ t (λ t. same_equal (starts_at + 2) 2 t)

  -- where nothing is told as changed, the bytes are the same
  pub unchanged_equal : unchanged a b ≡ true → Equal variables_at layout_at × Equal motion_at unused_at
  unfolding unchanged
  unchanged_equal t =
      let v = both (same_cells a b variables_at 4 cells) _ t in
      let f = both (same_cells a b flags_at 1 cells) _ v.1 in
      let o = both (same_cells a b outputs_at 1 cells) _ f.1 in
      let x = both (same_axis a b) _ o.1 in
      let s = both (same_starts a b) _ x.1 in (
        joined variables_at flags_at layout_at (cells_equal variables_at 4 cells v.0)
            (joined flags_at outputs_at layout_at (cells_equal flags_at 1 cells f.0) (cells_equal outputs_at 1 cells o.0)),
        joined motion_at starts_at unused_at (axis_equal x.0)
            (joined starts_at tasks_at unused_at (starts_equal s.0)
            (split (task_place bias) task_length unused_at _ s.1
            (λ t. split (task_place plc) task_length unused_at _ t (λ t. same_equal (task_place mathematics) task_length t)))),
      )

  -- and where they are the same, nothing is told
  pub equal_unchanged : Equal variables_at layout_at → Equal motion_at unused_at → unchanged a b ≡ true
  unfolding unchanged same_axis same_starts
  equal_unchanged e f =
      and (equal_cells variables_at 4 cells (λ i l h. e i (omega arith) (omega arith)))
      (and (equal_cells flags_at 1 cells (λ i l h. e i (omega arith) (omega arith)))
      (and (equal_cells outputs_at 1 cells (λ i l h. e i (omega arith) (omega arith)))
      (and (and (one motion_at 4 refl) (and (one (motion_at + 4) 2 refl)
      (and (one (motion_at + 6) 2 refl) (and (one (motion_at + 8) 2 refl) (and (one (motion_at + 10) 1 refl)
      (and (one notes_at 1 refl) (one (notes_at + 1) 1 refl)))))))
      (and (and (one starts_at 2 refl) (one (starts_at + 2) 2 refl))
      (and (one (task_place bias) task_length refl) (and (one (task_place plc) task_length refl) (one (task_place mathematics) task_length refl)))))))
    where
      one : (at n : ℕ) → (leb motion_at at && leb (at + n) unused_at) ≡ true → same a b at n ≡ true
      one at n t =
          let h = both (leb motion_at at) _ t in
          equal_same at n (part motion_at unused_at at (at + n) (leb-true motion_at at h.0) (leb-true (at + n) unused_at h.1) f)

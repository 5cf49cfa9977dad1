-- The three laws of a point's number: it gives the point back, it is below the marks' length, and its order is the report order.
use Prim.Native.Nat.{ℕ, ◌+◌, ◌*◌, ◌/◌, ◌%◌, ◌<◌, ◌≤◌}
use mathlib.Core.Path.{◌≡◌, sym, ◌∙◌}
use mathlib.Core.Bool.{true, false}
use native.Mathlib.Omega.{arith}
use lib.Dec.{ltb}
use borrow.Author.Tests.{lt-ltb, le-ltb, ltb-true, ltb-false}
use Rattle.limits.specs.Limits.{task_count, depths, marks_length}
use Rattle.walk_point.specs.declared.Point.{Point}
use Rattle.logic.proofs.Choice.{test}
use Rattle.walk.proofs.Points.Order.{by_true, by_false}
use Rattle.walk.specs.Index.{Inside, index_of, point_at, before}

-- the point gives the number back, and the number the point
pub index_back : (i : ℕ) → index_of (point_at i) ≡ i
unfolding index_of point_at
index_back i = omega arith

pub point_back : (p : Point) → Inside p → point_at (index_of p) ≡ p
unfolding index_of point_at
point_back p i =
    let t = i.task in
    let d = i.depth in
    let e : ((p.block * task_count + p.task) * depths + p.depth) % depths ≡ p.depth = omega arith in
    let f : ((p.block * task_count + p.task) * depths + p.depth) / depths ≡ p.block * task_count + p.task = omega arith in
    let g : (p.block * task_count + p.task) / task_count ≡ p.block = omega arith in
    let k : (p.block * task_count + p.task) % task_count ≡ p.task = omega arith in
    rw (e, f, g, k)

-- it is below the marks' length, and what is below has a point
pub below_marks : (p : Point) → Inside p → index_of p < marks_length
unfolding index_of
below_marks p i = let t = i.task in let b = i.block in let d = i.depth in omega arith

pub has_point : (i : ℕ) → i < marks_length → Inside (point_at i)
unfolding point_at
has_point i h = record { task = omega arith; block = omega arith; depth = omega arith }

-- its order is the report order
module _ (p q : Point) (i : Inside p) (j : Inside q) where
  less : before p q ≡ true → index_of p < index_of q
  unfolding index_of
  less e =
      let t = i.task in
      let d = i.depth in
      by_true p.block q.block _ e (λ l. omega arith)
      (λ b s. by_true p.task q.task _ s (λ l. omega arith) (λ k r. let l = ltb-true p.depth q.depth r in omega arith))

  more : before p q ≡ false → index_of q ≤ index_of p
  unfolding index_of
  more e =
      let t = j.task in
      let d = j.depth in
      by_false p.block q.block _ e (λ l. omega arith)
      (λ b s. by_false p.task q.task _ s (λ l. omega arith) (λ k r. let l = ltb-false p.depth q.depth r in omega arith))

  pub in_order : before p q ≡ ltb (index_of p) (index_of q)
  in_order = test (before p q) (λ e. e ∙ sym (lt-ltb _ _ (less e))) (λ e. e ∙ sym (le-ltb _ _ (more e)))

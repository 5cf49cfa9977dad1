-- The report order taken apart: of two points the blocks decide, then the tasks, then the depths.
use Prim.Native.Nat.{ℕ, ◌<◌, ◌≤◌}
use mathlib.Core.Path.{◌≡◌}
use mathlib.Core.Bool.{Bool, true, false}
use mathlib.Core.Logic.{⊎_elim}
use native.Mathlib.Omega.{arith}
use lib.Dec.{eqb, ltb}
use borrow.Author.Tests.{ltb-true, ltb-false, eqb-true, eqb-false}
use Rattle.walk_point.specs.declared.Point.{Point}
use Rattle.logic.proofs.Choice.{by, both, or_is, neither, not_both}
use Rattle.walk.specs.Index.{by_number, before}

-- by a number and the rest: the number decides, or it is the same and the rest does
module _ {P : Type 0} (a b : ℕ) (rest : Bool) where
  pub by_true : by_number a b rest ≡ true → (a < b → P) → (a ≡ b → rest ≡ true → P) → P
  by_true e f g = ⊎_elim (λ l. f (ltb-true a b l)) (λ k. let s = both (eqb a b) rest k in g (eqb-true a b s.0) s.1) (or_is (ltb a b) _ e)

  pub by_false : by_number a b rest ≡ false → (b < a → P) → (a ≡ b → rest ≡ false → P) → P
  by_false e f g =
      let s = neither (ltb a b) _ e in
      let l = ltb-false a b s.0 in
      by b a f (λ m. g (omega arith) (⊎_elim (λ n. absurd (let d = eqb-false a b n in omega arith)) (λ r. r) (not_both (eqb a b) rest s.1)))

-- q is not before p: its block is not above p's; in p's block its task is not earlier; and of p's task it is not less deep
module _ (p q : Point) (e : before q p ≡ false) where
  pub block_first : p.block ≤ q.block
  block_first = by_false q.block p.block _ e (λ l. omega arith) (λ b r. omega arith)

  pub then_task : p.block ≡ q.block → p.task ≤ q.task
  then_task b = by_false q.block p.block _ e (λ l. omega arith) (λ c r. by_false q.task p.task _ r (λ l. omega arith) (λ t d. omega arith))

  pub then_depth : p.block ≡ q.block → p.task ≡ q.task → p.depth ≤ q.depth
  then_depth b t =
      by_false q.block p.block _ e (λ l. omega arith)
      (λ c r. by_false q.task p.task _ r (λ l. omega arith) (λ u d. ltb-false q.depth p.depth d))

-- What a search has found tells the verdict of the definitions, which take a number past all blocks, or all points, for none.
use Prim.Native.Nat.{ℕ, ◌<◌}
use mathlib.Core.Path.{◌≡◌, refl}
use mathlib.Core.Bool.{Bool, true, false, cond}
use mathlib.Core.List.{List}
use lib.Dec.{ltb}
use borrow.Author.Tests.{ltb-true}
use Rattle.std.proofs.Common.{None, Some, IfSome, Ok, Err}
use Rattle.limits.specs.Limits.{most_blocks, marks_length}
use Rattle.walk_flow.specs.Terms.{Terms}
use Rattle.walk.specs.Blocks.{fault_at}
use Rattle.walk.specs.Index.{point_at}
use Rattle.walk.specs.Verdict.{refused_by, verdict_by}
use Rattle.walk.specs.declared.Refusal.TheVariants as verdict
use Rattle.walk_search.specs.Search.{below, verdict_with}

pub below_is : (most n : ℕ) → IfSome (below most n) (λ i. i < most)
below_is most n = go (ltb n most) refl
  where
    go : (t : Bool) → ltb n most ≡ t → IfSome (cond t (Some n) None) (λ i. i < most)
    go true e = ltb-true n most e
    go false e = tt

pub told : (h : Terms) (bs : List ℕ) (foreign bad : ℕ) → verdict_with h bs (below most_blocks foreign) (below marks_length bad) ≡ verdict_by h bs foreign bad
unfolding verdict_by
told h bs foreign bad = go (ltb foreign most_blocks) (ltb bad marks_length)
  where
    go : (t u : Bool) → verdict_with h bs (cond t (Some foreign) None) (cond u (Some bad) None)
        ≡ cond t (Err (verdict.Foreign foreign))
        (cond u (refused_by (λ f. verdict.Bad f (point_at bad)) (fault_at h bs (point_at bad)) (Ok tt)) (Ok tt))
    go true u = refl
    go false true = refl
    go false false = refl

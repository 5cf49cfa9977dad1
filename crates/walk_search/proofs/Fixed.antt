-- What the relations of specs/ say is all that they are for: marks are untouched behind the length, and two searched contents have the same sets. One thing
-- less in a relation is noticed here.
use Prim.Native.Nat.{ℕ, ◌+◌, ◌-◌, ◌*◌, ◌/◌, ◌%◌, ◌<◌}
use mathlib.Core.Path.{◌≡◌, sym, ◌∙◌}
use mathlib.Core.List.{List}
use native.Mathlib.Omega.{arith}
use lib.ListN.{drop, length-drop}
use lib.Seq.{ext_get_or, get_or-drop}
use Rattle.limits.specs.Limits.{depths}
use Rattle.walk_flow.specs.Terms.{Terms}
use Rattle.walk_graph.specs.Depths.{digit}
use Rattle.walk_graph.proofs.Depths.{same_set}
use Rattle.walk_search.specs.After.{After}
use Rattle.walk_search.specs.Search.{seen_in, handed_in, Searched}

module _ {n : ℕ} {l m : List ℕ} (a : After n l m) where
  -- no byte from n on is touched
  pub behind_stays : drop n m ≡ drop n l
  behind_stays =
      ext_get_or 0 (drop n m) (drop n l) (length-drop n m ∙ (λ ι. a.long ι - n) ∙ sym (length-drop n l))
      (λ k h. get_or-drop n m k 0 ∙ a.rest (n + k) (omega arith) ∙ sym (get_or-drop n l k 0))

-- what is seen of a pair, and what was handed on, is the same
module _ {h : Terms} {bs l m : List ℕ} (a : Searched h bs l) (b : Searched h bs m) (p : ℕ) where
  pub seen_one : seen_in l p ≡ seen_in m p
  seen_one = same_set (seen_in l p) (seen_in m p) (a.small p) (b.small p) (λ d k. go d k)
    where
      go : (d : ℕ) → d < depths → digit (seen_in l p) d ≡ digit (seen_in m p) d
      go d k =
          let e : (depths * p + d) / depths ≡ p = omega arith in
          let f : (depths * p + d) % depths ≡ d = omega arith in
          (rw (e, f) at (a.seen (depths * p + d))) ∙ sym (rw (e, f) at (b.seen (depths * p + d)))

  pub handed_one : handed_in l p ≡ handed_in m p
  handed_one = a.settled p ∙ seen_one ∙ sym (b.settled p)

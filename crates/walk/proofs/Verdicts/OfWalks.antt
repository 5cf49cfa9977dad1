-- The computed verdict is what walks say: the closure has exactly what walks reach, so the least of it is the least that some walk reaches; and
-- an image has one verdict.
use Rattle.std.specs.Prelude.{Result, Ok, Err}
use Prim.Native.Nat.{ℕ, ◌<◌, ◌≤◌}
use mathlib.Core.Path.{◌≡◌, refl, sym, ap, ap₂, subst, ◌∙◌}
use mathlib.Core.Bool.{Bool, true, false, cond}
use mathlib.Core.Logic.{◌⊎◌, inl, inr, ◌↔◌}
use mathlib.Core.List.{List}
use native.Mathlib.Omega.{arith}
use lib.Dec.{ltb}
use borrow.Author.Tests.{ltb-true, ltb-false, le-ltb}
use Rattle.limits.specs.Limits.{most_blocks, marks_length}
use Rattle.walk_flow.specs.Terms.{Terms}
use Rattle.walk_point.specs.declared.Point.{Point}
use Rattle.walk.specs.Blocks.{fault_at}
use Rattle.walk.specs.Walk.{Reaches}
use Rattle.walk.specs.Index.{index_of, point_at, before}
use Rattle.walk.specs.Successors.{next_of, WalkBounds}
use Rattle.walk.specs.Graph.{In, Reach}
use Rattle.logic.proofs.Choice.{clash}
use Rattle.walk_fault.specs.Fault.{FaultResult, is_foreign, is_bad}
use Rattle.walk_fault.specs.declared.Fault.{Fault}
use Rattle.walk.specs.Verdict.{refused_by, root_of, fuel, reached, least_foreign, least_bad, verdict_by, walks_verdict}
use Rattle.walk.specs.IsVerdict.{ForeignAt, BadAt, NoForeign, IsWalksVerdict}
use Rattle.walk.specs.Verdict.{Verdict}
use Rattle.walk.specs.declared.Refusal.TheVariants as verdict
use Rattle.walk.proofs.Graph.Closure.{closure_sound, closure_whole}
use Rattle.walk.proofs.Graph.Least.{Member, least_below, least_found}
use Rattle.walk.proofs.Points.Index.{point_back, index_back, in_order}
use Rattle.walk.proofs.Steps.History.{inside, next_few, reached_within, reached_number, number_reached, number_inside}

-- results with one fault
pub same_fault : {E : Type 0} (f g : E) → ◌≡◌ {A = Result (Unit {0}) E} (Err f) (Err g) → f ≡ g
same_fault {E} f g e = ap told e
  where
    told : Result (Unit {0}) E → E
    told (Ok t) = f
    told (Err x) = x

module _ (h : Terms) (bs : List ℕ) (bounds : WalkBounds h) where
  -- ---- an image has one verdict

  same_point : (p q : Point) → Reaches h bs p → Reaches h bs q → before p q ≡ false → before q p ≡ false → p ≡ q
  same_point p q r s a b =
      let i = inside h bs bounds p (reached_within h bs bounds p r) in
      let j = inside h bs bounds q (reached_within h bs bounds q s) in
      let c = ltb-false (index_of p) (index_of q) (sym (in_order p q i j) ∙ a) in
      let d = ltb-false (index_of q) (index_of p) (sym (in_order q p j i) ∙ b) in
      let e : index_of p ≡ index_of q = omega arith in
      sym (point_back p i) ∙ ap point_at e ∙ point_back q j

  pub one_verdict : (v w : Verdict) → IsWalksVerdict h bs v → IsWalksVerdict h bs w → v ≡ w
  one_verdict _ _ (IsWalksVerdict.accepted f b) (IsWalksVerdict.accepted g d) = refl
  one_verdict _ _ (IsWalksVerdict.accepted f b) (IsWalksVerdict.foreign p k l) = absurd (f p k)
  one_verdict _ _ (IsWalksVerdict.accepted f b) (IsWalksVerdict.bad g p k l f1 e1) = absurd (b p k)
  one_verdict _ _ (IsWalksVerdict.foreign p k l) (IsWalksVerdict.accepted f b) = absurd (f p k)
  one_verdict _ _ (IsWalksVerdict.foreign p k l) (IsWalksVerdict.foreign q m n) = ap (λ (b : ℕ). Err (verdict.Foreign b)) (let a = l q m in let b = n p k in omega arith)
  one_verdict _ _ (IsWalksVerdict.foreign p k l) (IsWalksVerdict.bad g q m n g1 e2) = absurd (g p k)
  one_verdict _ _ (IsWalksVerdict.bad g p k l f1 e1) (IsWalksVerdict.accepted f b) = absurd (b p k)
  one_verdict _ _ (IsWalksVerdict.bad g p k l f1 e1) (IsWalksVerdict.foreign q m n) = absurd (g q m)
  one_verdict _ _ (IsWalksVerdict.bad g p k l f1 e1) (IsWalksVerdict.bad f q m n g1 e2) =
      let e = same_point p q k.0 m.0 (n p k) (l q m) in
      let g : f1 ≡ g1 = same_fault f1 g1 (sym e1 ∙ ap (fault_at h bs) e ∙ e2) in
      ap₂ (λ (f : Fault) (o : Point). Err (verdict.Bad f o)) g e

  -- ---- the computed verdict is that one

  abbrev foreign_test : ℕ → Bool
  foreign_test i = is_foreign (fault_at h bs (point_at i))

  abbrev bad_test : ℕ → Bool
  bad_test i = is_bad (fault_at h bs (point_at i))

  abbrev block_of : ℕ → ℕ
  block_of i = (point_at i).block

  abbrev same : ℕ → ℕ
  same i = i

  -- a list of numbers that has exactly what is reached
  pub record Exact (is : List ℕ) : Type 0 where
    pub sound : (i : ℕ) → In i is → Reach (next_of h bs) (root_of h) i
    pub whole : (i : ℕ) → Reach (next_of h bs) (root_of h) i → In i is

  pub exact : Exact (reached h bs)
  unfolding reached
  exact = record {
    sound = closure_sound (next_of h bs) (root_of h) marks_length (number_inside h bs bounds) (next_few h bs bounds) fuel (omega arith);
    whole = closure_whole (next_of h bs) (root_of h) marks_length (number_inside h bs bounds) (next_few h bs bounds) fuel (omega arith);
  }

  module _ (is : List ℕ) (x : Exact is) where
    walked : (i : ℕ) → In i is → Reaches h bs (point_at i)
    walked i m = number_reached h bs bounds i (x.sound i m)

    listed : (p : Point) → Reaches h bs p → In (index_of p) is
    listed p r = x.whole (index_of p) (reached_number h bs bounds p r)

    back : (p : Point) → Reaches h bs p → point_at (index_of p) ≡ p
    back p r = point_back p (inside h bs bounds p (reached_within h bs bounds p r))

    -- none is before the least
    foreign_least : (p : Point) → ForeignAt h bs p → least_foreign h bs is ≤ p.block
    unfolding least_foreign
    foreign_least p f =
        let b = back p f.0 in
        subst (λ (o : Point). least_foreign h bs is ≤ o.block) b
        (least_below foreign_test block_of most_blocks is (index_of p) (listed p f.0) (rw b f.1))

    bad_least : (p : Point) → BadAt h bs p → least_bad h bs is ≤ index_of p
    unfolding least_bad
    bad_least p f =
        least_below bad_test same marks_length is (index_of p) (listed p f.0) (rw (back p f.0) f.1)

    no_foreign : most_blocks ≤ least_foreign h bs is → NoForeign h bs
    no_foreign l p f =
        let a = foreign_least p f in
        let b = (reached_within h bs bounds p f.0).block in
        let m = bounds.most in
        omega arith

    no_bad : marks_length ≤ least_bad h bs is → (p : Point) → BadAt h bs p → ⊥
    no_bad l p f =
        let a = bad_least p f in
        let b = number_inside h bs bounds (index_of p) (reached_number h bs bounds p f.0) in
        omega arith

    -- a foreign point that is reached, where there is a least block
    says_foreign : least_foreign h bs is < most_blocks → IsWalksVerdict h bs (Err (verdict.Foreign (least_foreign h bs is)))
    unfolding least_foreign
    says_foreign l = found (least_found foreign_test block_of most_blocks is)
      where
        found : (least_foreign h bs is ≡ most_blocks) ⊎ Member foreign_test block_of most_blocks is (least_foreign h bs is)
            → IsWalksVerdict h bs (Err (verdict.Foreign (least_foreign h bs is)))
        found (inl e) = absurd (omega arith)
        found (inr m) =
            let p = point_at m.at in
            let e : p.block ≡ least_foreign h bs is = m.key_is in
            rw (← e) (IsWalksVerdict.foreign p (walked m.at m.member, m.passes) (λ q f. rw e (foreign_least q f)))

    -- a bad point breaks something, which is told
    by_fault : NoForeign h bs → (p : Point) → BadAt h bs p → ((q : Point) → BadAt h bs q → before q p ≡ false)
        → IsWalksVerdict h bs (refused_by (λ f. verdict.Bad f p) (fault_at h bs p) (Ok tt))
    by_fault none p b least = go (fault_at h bs p) refl
      where
        go : (r : FaultResult) → fault_at h bs p ≡ r → IsWalksVerdict h bs (refused_by (λ f. verdict.Bad f p) r (Ok tt))
        go (Ok _) e = clash (sym b.1 ∙ ap is_bad e)
        go (Err f) e = IsWalksVerdict.bad none p b least f e

    -- a bad point that is reached, where there is a least one
    says_bad : NoForeign h bs → least_bad h bs is < marks_length
        → IsWalksVerdict h bs (refused_by (λ f. verdict.Bad f (point_at (least_bad h bs is))) (fault_at h bs (point_at (least_bad h bs is))) (Ok tt))
    unfolding least_bad
    says_bad none l = found (least_found bad_test same marks_length is)
      where
        found : (least_bad h bs is ≡ marks_length) ⊎ Member bad_test same marks_length is (least_bad h bs is)
            → IsWalksVerdict h bs (refused_by (λ f. verdict.Bad f (point_at (least_bad h bs is))) (fault_at h bs (point_at (least_bad h bs is))) (Ok tt))
        found (inl e) = absurd (omega arith)
        found (inr m) = subst (λ (i : ℕ). IsWalksVerdict h bs (refused_by (λ f. verdict.Bad f (point_at i)) (fault_at h bs (point_at i)) (Ok tt))) m.key_is
            (here m.at m.key_is m.member m.passes)
          where
            here : (i : ℕ) → i ≡ least_bad h bs is → In i is → bad_test i ≡ true → IsWalksVerdict h bs (refused_by (λ f. verdict.Bad f (point_at i)) (fault_at h bs (point_at i)) (Ok tt))
            here i e k t =
                let w = walked i k in
                let p = point_at i in
                let inside-p = inside h bs bounds p (reached_within h bs bounds p w) in
                by_fault none p (w, t)
                (λ q f. in_order q p (inside h bs bounds q (reached_within h bs bounds q f.0)) inside-p
                ∙ le-ltb (index_of q) (index_of p) (let a = bad_least q f in let b = index_back i in omega arith))

    says : IsWalksVerdict h bs (verdict_by h bs (least_foreign h bs is) (least_bad h bs is))
    unfolding verdict_by
    says = first (ltb (least_foreign h bs is) most_blocks) refl
      where
        second : NoForeign h bs → (t : Bool) → ltb (least_bad h bs is) marks_length ≡ t
            → IsWalksVerdict h bs (cond t (refused_by (λ f. verdict.Bad f (point_at (least_bad h bs is))) (fault_at h bs (point_at (least_bad h bs is))) (Ok tt)) (Ok tt))
        second none true e = says_bad none (ltb-true _ _ e)
        second none false e = IsWalksVerdict.accepted none (no_bad (ltb-false _ _ e))

        first : (t : Bool) → ltb (least_foreign h bs is) most_blocks ≡ t
            → IsWalksVerdict h bs
            (cond t (Err (verdict.Foreign (least_foreign h bs is)))
            (cond (ltb (least_bad h bs is) marks_length) (refused_by (λ f. verdict.Bad f (point_at (least_bad h bs is))) (fault_at h bs (point_at (least_bad h bs is))) (Ok tt)) (Ok tt)))
        first true e = says_foreign (ltb-true _ _ e)
        first false e = second (no_foreign (ltb-false _ _ e)) (ltb (least_bad h bs is) marks_length) refl

  -- the verdict is what walks say
  pub verdict_says : IsWalksVerdict h bs (walks_verdict h bs)
  unfolding walks_verdict
  verdict_says = says (reached h bs) exact

  -- a verdict says what walks do exactly when it is the computed one
  pub walks_exactly : (v : Verdict) → IsWalksVerdict h bs v ↔ (v ≡ walks_verdict h bs)
  walks_exactly v = (λ s. one_verdict v (walks_verdict h bs) s verdict_says, λ e. rw e verdict_says)

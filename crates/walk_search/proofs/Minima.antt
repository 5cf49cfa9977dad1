-- The least foreign block and the least bad point of what was handed on: a visit keeps them, and at the end they are the verdict's.
use Prim.Native.Nat.{ℕ, ◌+◌, ◌*◌, ◌/◌, ◌%◌, ◌<◌, ◌≤◌}
use mathlib.Core.Path.{◌≡◌, refl, sym, ap, ◌∙◌}
use mathlib.Core.Bool.{Bool, true, false, cond}
use mathlib.Core.Logic.{◌⊎◌, inl, inr, ⊎_elim}
use mathlib.Core.List.{List}
use Rattle.std.proofs.Common.{Option, None, Some, MatchOption}
use Rattle.std.specs.Prelude.{⊤}
use native.Mathlib.Decide.{ℕ_discrete}
use native.Mathlib.Omega.{arith}
use lib.Dec.{ltb, eqb}
use borrow.Author.Tests.{eqb-true, eqb-false, lt-ltb, le-ltb}
use Rattle.limits.specs.Limits.{most_blocks, depths, marks_length}
use Rattle.logic.proofs.Choice.{clash}
use Rattle.walk_flow.specs.Terms.{Terms}
use Rattle.walk_fault.specs.Fault.{is_foreign, is_bad}
use Rattle.walk.specs.Blocks.{fault_at}
use Rattle.walk.specs.Index.{point_at}
use Rattle.walk.specs.Graph.{In, Reach, least}
use Rattle.walk.specs.Successors.{next_of, WalkBounds}
use Rattle.walk.specs.Verdict.{root_of, reached, least_foreign, least_bad}
use Rattle.walk.proofs.Points.Index.{has_point}
use Rattle.walk.proofs.Graph.Least.{lesser_first, lesser_second, Member, least_only}
use Rattle.walk.proofs.Steps.History.{number_inside}
use Rattle.walk.proofs.Verdicts.OfWalks.{exact}
use Rattle.walk_graph.specs.Depths.{sets, Has, least_depth}
use Rattle.walk_graph.specs.Onward.{task_of, block_of, onward_of}
use Rattle.walk_graph.specs.declared.Onward.{Onward}
use Rattle.walk_graph.proofs.Depths.{none, some_depth, least_has, least_least}
use Rattle.walk_graph.proofs.Handing.{foreign_at_lem, bad_of, bad_has, bad_small}
use Rattle.walk_search.specs.Search.{least_with, foreign_with, bad_with, below, Seen}
use Rattle.walk_search.proofs.Stores.{put, put_same, put_other}

-- a number of these that passes a test, with this key
pub record Among (P : ℕ → Type 0) (test : ℕ → Bool) (key : ℕ → ℕ) (k : ℕ) : Type 0 where
  pub at : ℕ
  pub one : P at
  pub passes : test at ≡ true
  pub key_is : key at ≡ k

-- a number that was found is at most n
abbrev pub AtMost : Option ℕ → ℕ → Type 0
AtMost None n = ⊥
AtMost (Some m) n = m ≤ n

-- the least key of those that pass a test, None where there is none
pub record LeastOf (P : ℕ → Type 0) (test : ℕ → Bool) (key : ℕ → ℕ) (m : Option ℕ) : Type 0 where
  pub below : (k : ℕ) → P k → test k ≡ true → AtMost m (key k)
  pub found : MatchOption m ⊤ (Among P test key)

with_first : (n k : ℕ) (m : Option ℕ) → n ≤ k → least_with n m ≤ k
with_first n k None h = h
with_first n k (Some b) h = omega (arith, lesser_first n b)

with_second : (n k : ℕ) (m : Option ℕ) → AtMost m k → least_with n m ≤ k
with_second n k None h = absurd h
with_second n k (Some b) h = omega (arith, lesser_second n b)

module _ {P Q : ℕ → Type 0} (test : ℕ → Bool) (key : ℕ → ℕ) (more : (k : ℕ) → P k → Q k) where
  among : {m : ℕ} → Among P test key m → Among Q test key m
  among a = record { at = a.at; one = more a.at a.one; passes = a.passes; key_is = a.key_is }

  further : (m : Option ℕ) → MatchOption m ⊤ (Among P test key) → MatchOption m ⊤ (Among Q test key)
  further None a = a
  further (Some m) a = among a

  -- the lesser is among them
  lower : (n : ℕ) (m : Option ℕ) → Among Q test key n → MatchOption m ⊤ (Among P test key) → Among Q test key (least_with n m)
  lower n None new a = new
  lower n (Some b) new a = go (ltb n b)
    where
      go : (t : Bool) → Among Q test key (cond t n b)
      go true = new
      go false = among a

module _ {P Q : ℕ → Type 0} {test : ℕ → Bool} {key : ℕ → ℕ} {m : Option ℕ} (s : LeastOf P test key m) (more : (k : ℕ) → P k → Q k) where
  -- further numbers, none of which passes
  least_kept : ((k : ℕ) → Q k → test k ≡ true → P k) → LeastOf Q test key m
  least_kept old = record { below = λ k i e. s.below k (old k i e) e; found = further test key more m s.found }

  -- further numbers, the least key of which is n
  least_lower : (n : ℕ) → ((k : ℕ) → Q k → test k ≡ true → P k ⊎ (n ≤ key k)) → Among Q test key n → LeastOf Q test key (Some (least_with n m))
  least_lower n old new = record {
    below = λ k i e. ⊎_elim (λ y. with_second n (key k) m (s.below k y e)) (λ y. with_first n (key k) m y) (old k i e);
    found = lower test key more n m new s.found;
  }

-- the keys: the block of a number's point, and the number itself
abbrev pub block_key : ℕ → ℕ
block_key i = (point_at i).block

abbrev pub self : ℕ → ℕ
self i = i

module _ (h : Terms) (bs : List ℕ) where
  abbrev pub foreign_at : ℕ → Bool
  foreign_at i = is_foreign (fault_at h bs (point_at i))

  abbrev pub bad_at : ℕ → Bool
  bad_at i = is_bad (fault_at h bs (point_at i))

  -- of the points of a function's sets
  pub record Minima (hs : ℕ → ℕ) (foreign bad : Option ℕ) : Type 0 where
    pub foreign_least : LeastOf (Seen hs) foreign_at block_key foreign
    pub bad_least : LeastOf (Seen hs) bad_at self bad

  -- ---- a visit: pair p has handed the depths s on, those among them that it had handed on before
  module _ (hs : ℕ → ℕ) (p s : ℕ) (held : (d : ℕ) → Has (hs p) d → Has s d) (some : 0 < s) (small : s < sets) where
    abbrev o : Onward
    o = onward_of h bs (task_of p) (block_of p) s

    abbrev hs' : ℕ → ℕ
    hs' = put hs p s

    grows : (k : ℕ) → Seen hs k → Seen hs' k
    grows k i = go (ℕ_discrete (k / depths) p)
      where
        go : Dec (k / depths ≡ p) → Seen hs' k
        go (yes e) = rw (e, put_same hs p s) (held (k % depths) (rw e at i))
        go (no n) = rw (put_other hs p (k / depths) s n) i

    -- a point there is of pair p, or was there before
    apart : (k : ℕ) → Seen hs' k → Seen hs k ⊎ ((k ≡ depths * p + k % depths) × Has s (k % depths))
    apart k i = go (ℕ_discrete (k / depths) p)
      where
        go : Dec (k / depths ≡ p) → Seen hs k ⊎ ((k ≡ depths * p + k % depths) × Has s (k % depths))
        go (yes e) = inr (omega arith, rw (e, put_same hs p s) at i)
        go (no n) = inl (rw (put_other hs p (k / depths) s n) at i)

    here : (d : ℕ) → d < depths → Has s d → Seen hs' (depths * p + d)
    here d l i =
        let e : (depths * p + d) / depths ≡ p = omega arith in
        let f : (depths * p + d) % depths ≡ d = omega arith in
        rw (e, f, put_same hs p s) i

    block_here : (d : ℕ) → d < depths → block_key (depths * p + d) ≡ block_of p
    unfolding point_at
    block_here d l = omega arith

    foreign_visit : {m : Option ℕ} → LeastOf (Seen hs) foreign_at block_key m
        → LeastOf (Seen hs') foreign_at block_key (foreign_with o.foreign (block_of p) m)
    foreign_visit {m} w = go o.foreign refl
      where
        at_pair : (k : ℕ) → k ≡ depths * p + k % depths → foreign_at k ≡ o.foreign
        at_pair k e = ap foreign_at e ∙ foreign_at_lem h bs p s small (k % depths) (omega arith)

        go : (t : Bool) → o.foreign ≡ t → LeastOf (Seen hs') foreign_at block_key (cond t (Some (least_with (block_of p) m)) m)
        go true e =
            let d = some_depth s some small in
            least_lower w grows (block_of p)
            (λ k i y. ⊎_elim (λ z. inl z) (λ z. inr (omega (arith, ap block_key z.0, block_here (k % depths) (omega arith)))) (apart k i))
            (record {
              at = depths * p + d.0;
              one = here d.0 d.1 d.2;
              passes = foreign_at_lem h bs p s small d.0 d.1 ∙ e;
              key_is = block_here d.0 d.1;
            })
        go false e = least_kept w grows (λ k i y. ⊎_elim (λ z. z) (λ z. clash (sym y ∙ at_pair k z.0 ∙ e)) (apart k i))

    bad_visit : {m : Option ℕ} → LeastOf (Seen hs) bad_at self m → LeastOf (Seen hs') bad_at self (bad_with o.bad p m)
    bad_visit {m} w = go (eqb o.bad 0) refl
      where
        bad_here : (k : ℕ) → bad_at k ≡ true → (k ≡ depths * p + k % depths) × Has s (k % depths) → Has o.bad (k % depths)
        bad_here k y z = bad_has h bs p s small (k % depths) z.1 (ap bad_at (sym z.0) ∙ y)

        go : (t : Bool) → eqb o.bad 0 ≡ t → LeastOf (Seen hs') bad_at self (cond t m (Some (least_with (depths * p + least_depth o.bad) m)))
        go true e =
            let n = eqb-true o.bad 0 e in
            least_kept w grows (λ k i y. ⊎_elim (λ z. z) (λ z. absurd (none (k % depths) (rw n at (bad_here k y z)))) (apart k i))
        go false e =
            let n = eqb-false o.bad 0 e in
            let l = least_has o.bad (omega arith) (bad_small h bs p s small) in
            let b = bad_of h bs p s small (least_depth o.bad) l.0 in
            least_lower w grows (depths * p + least_depth o.bad)
            (λ k i y. ⊎_elim (λ z. inl z)
            (λ z. inr (omega (arith, z.0, least_least o.bad (k % depths) (bad_small h bs p s small) (bad_here k y z))))
            (apart k i))
            (record { at = depths * p + least_depth o.bad; one = here (least_depth o.bad) l.1 b.0; passes = b.1; key_is = refl })

    pub minima_visit : (foreign bad : Option ℕ) → Minima hs foreign bad → Minima hs' (foreign_with o.foreign (block_of p) foreign) (bad_with o.bad p bad)
    minima_visit foreign bad w = record { foreign_least = foreign_visit w.foreign_least; bad_least = bad_visit w.bad_least }

  -- ---- the beginning and the end

  pub minima_begun : (hs : ℕ → ℕ) → ((p : ℕ) → hs p ≡ 0) → Minima hs None None
  minima_begun hs z = record {
    foreign_least = record { below = λ k i. absurd (none (k % depths) (rw (z (k / depths)) at i)); found = tt };
    bad_least = record { below = λ k i. absurd (none (k % depths) (rw (z (k / depths)) at i)); found = tt };
  }

  module _ (r : WalkBounds h) (hs : ℕ → ℕ) (sound : (i : ℕ) → Seen hs i → Reach (next_of h bs) (root_of h) i)
      (whole : (i : ℕ) → Reach (next_of h bs) (root_of h) i → Seen hs i) where
    least_is : (test : ℕ → Bool) (key : ℕ → ℕ) (most : ℕ) → ((p : ℕ) → p < marks_length → key p < most) → (m : Option ℕ)
        → LeastOf (Seen hs) test key m → m ≡ below most (least test key most (reached h bs))
    least_is test key most bound m s = go m s.below s.found
      where
        inside : (p : ℕ) → Reach (next_of h bs) (root_of h) p → key p < most
        inside p w = bound p (number_inside h bs r p w)

        only : (n : ℕ) → ((p : ℕ) → In p (reached h bs) → test p ≡ true → n ≤ key p) → (n ≡ most) ⊎ Member test key most (reached h bs) n → n ≡ least test key most (reached h bs)
        only = least_only test key most (reached h bs) (λ p k. omega (arith, inside p ((exact h bs r).sound p k)))

        go : (m : Option ℕ) → ((k : ℕ) → Seen hs k → test k ≡ true → AtMost m (key k)) → MatchOption m ⊤ (Among (Seen hs) test key)
            → m ≡ below most (least test key most (reached h bs))
        go None low a =
            let e = only most (λ p k t. absurd (low p (whole p ((exact h bs r).sound p k)) t)) (inl refl) in
            rw (← e, le-ltb most most (omega arith))
        go (Some n) low a =
            let e = only n (λ p k t. low p (whole p ((exact h bs r).sound p k)) t)
            (inr (record { at = a.at; member = (exact h bs r).whole a.at (sound a.at a.one); passes = a.passes; key_is = a.key_is })) in
            rw (← e, lt-ltb n most (omega (arith, inside a.at (sound a.at a.one), a.key_is)))

    pub minima_are : (foreign bad : Option ℕ) → Minima hs foreign bad
        → (foreign ≡ below most_blocks (least_foreign h bs (reached h bs))) × (bad ≡ below marks_length (least_bad h bs (reached h bs)))
    unfolding least_foreign least_bad
    minima_are foreign bad w = (
      least_is foreign_at block_key most_blocks (λ p l. let b = (has_point p l).block in omega arith) foreign w.foreign_least,
      least_is bad_at self marks_length (λ p l. omega arith) bad w.bad_least,
    )

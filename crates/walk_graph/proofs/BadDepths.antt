-- The depths at which a flow breaks 10, 11 or 12 are those of the bad points, and at the others it breaks nothing.
use Rattle.std.specs.Prelude.{Ok, Err}
use Prim.Native.Nat.{ℕ, ◌-◌, ◌/◌, ◌%◌, ◌*◌, ◌<◌, ◌≤◌}
use mathlib.Core.Path.{◌≡◌, refl}
use mathlib.Core.Bool.{Bool, true, false, cond}
use mathlib.Core.Logic.{◌⊎◌, inl, inr}
use native.Mathlib.Decide.{ℕ_discrete}
use native.Mathlib.Omega.{arith}
use borrow.Author.Tests.{lt-leb, le-leb, eq-eqb, ne_eqb}
use Rattle.limits.specs.Limits.{most_depth}
use Rattle.walk_flow.specs.declared.Flow.{Flow}
use Rattle.walk_flow.specs.declared.Flow.TheVariants.{Next, Wait, Jump, Branch, Call, Return, Start, Restart, End, ComputedJump, ComputedStart}
use Rattle.walk_fault.specs.Fault.{is_bad}
use Rattle.walk_fault.specs.Fault.{FaultResult}
use Rattle.walk_fault.specs.declared.Fault.TheVariants.{TooDeep, NoCall, PastEnd}
use Rattle.walk_point.specs.PointFault.{too_deep, no_call}
use Rattle.walk_graph.specs.Depths.{sets, deepest, Has}
use Rattle.walk_graph.specs.Onward.{broken_by, broken}
use Rattle.walk_graph.proofs.Depths.{none, is_depth, cut_has, cut_of, top_has, top_of, least_digit, least_digit_of, others_has, others_of}

pub broken_within : (past : Bool) (f : Flow) (s : ℕ) → broken past f s ≤ s
broken_within true f s = omega arith
broken_within false (Call a) s = omega arith
broken_within false Return s = omega arith
broken_within false Next s = omega arith
broken_within false Wait s = omega arith
broken_within false (Jump a) s = omega arith
broken_within false (Branch a) s = omega arith
broken_within false (Start u a) s = omega arith
broken_within false Restart s = omega arith
broken_within false End s = omega arith
broken_within false ComputedJump s = omega arith
broken_within false (ComputedStart u) s = omega arith

-- what 10, 11 and 12 say of a flow at a depth
abbrev pub fault_by : Bool → Flow → ℕ → FaultResult
fault_by past f d = cond (too_deep f d) (Err TooDeep) (cond (no_call f d) (Err NoCall) (cond past (Err PastEnd) (Ok tt)))

-- of the depths s some are broken, and the others are left
pub record Split (past : Bool) (f : Flow) (s d : ℕ) : Type 0 where
  -- a depth of s is one or the other, and its fault says which
  pub has : Has s d → (Has (broken past f s) d × (is_bad (fault_by past f d) ≡ true)) ⊎ (Has (s - broken past f s) d × (fault_by past f d ≡ Ok tt))
  pub bad_of : Has (broken past f s) d → Has s d × (is_bad (fault_by past f d) ≡ true)
  pub left_of : Has (s - broken past f s) d → Has s d × (fault_by past f d ≡ Ok tt)

always_bad : (f : Flow) (d : ℕ) → is_bad (fault_by true f d) ≡ true
always_bad f d = go (too_deep f d) (no_call f d)
  where
    go : (t u : Bool) → is_bad (cond t (Err TooDeep) (cond u (Err NoCall) (Err PastEnd))) ≡ true
    go true u = refl
    go false true = refl
    go false false = refl

-- a flow that breaks nothing at any depth
plain : (f : Flow) (s d : ℕ) → broken_by f s ≡ 0 → fault_by false f d ≡ Ok tt → Split false f s d
plain f s d e k = record {
  has = λ h. inr (rw (e, z) h, k);
  bad_of = λ h. absurd (none d (rw e at h));
  left_of = λ h. (rw (e, z) at h, k);
}
  where
    z : s - 0 ≡ s
    z = omega arith

pub split : (past : Bool) (f : Flow) (s d : ℕ) → s < sets → Split past f s d
split true f s d l = record {
  has = λ h. inl (h, always_bad f d);
  bad_of = λ h. (h, always_bad f d);
  left_of = λ h. let z : s - s ≡ 0 = omega arith in absurd (none d (rw z at h));
}
split false (Call a) s d l = record { has = has; bad_of = bad_of; left_of = left_of }
  where
    z : s - s / deepest * deepest ≡ s % deepest
    z = omega arith

    bad_of : Has (s / deepest * deepest) d → Has s d × (is_bad (fault_by false (Call a) d) ≡ true)
    bad_of h = let t = top_of s d l h in (t.1, rw (le-leb most_depth d (omega (arith, t.0))) refl)

    left_of : Has (s - s / deepest * deepest) d → Has s d × (fault_by false (Call a) d ≡ Ok tt)
    left_of h = let t = cut_of s d (rw z at h) in (t.1, rw (lt-leb most_depth d t.0) refl)

    has : Has s d → (Has (s / deepest * deepest) d × (is_bad (fault_by false (Call a) d) ≡ true))
        ⊎ (Has (s - s / deepest * deepest) d × (fault_by false (Call a) d ≡ Ok tt))
    has h = go (ℕ_discrete d most_depth)
      where
        go : Dec (d ≡ most_depth)
            → (Has (s / deepest * deepest) d × (is_bad (fault_by false (Call a) d) ≡ true))
            ⊎ (Has (s - s / deepest * deepest) d × (fault_by false (Call a) d ≡ Ok tt))
        go (yes e) = let t : Has (s / deepest * deepest) d = rw e (top_has s (rw e at h)) in inl (t, (bad_of t).1)
        go (no n) = let t : Has (s - s / deepest * deepest) d = rw z (cut_has s d (omega (arith, is_depth s d l h)) h) in inr (t, (left_of t).1)
split false Return s d l = record { has = has; bad_of = bad_of; left_of = left_of }
  where
    bad_of : Has (s % 2) d → Has s d × (is_bad (fault_by false Return d) ≡ true)
    bad_of h = let t = least_digit_of s d h in (t.1, rw (eq-eqb d 0 t.0) refl)

    left_of : Has (s - s % 2) d → Has s d × (fault_by false Return d ≡ Ok tt)
    left_of h = let t = others_of s d h in (t.1, rw (ne_eqb d 0 t.0) refl)

    has : Has s d → (Has (s % 2) d × (is_bad (fault_by false Return d) ≡ true)) ⊎ (Has (s - s % 2) d × (fault_by false Return d ≡ Ok tt))
    has h = go (ℕ_discrete d 0)
      where
        go : Dec (d ≡ 0) → (Has (s % 2) d × (is_bad (fault_by false Return d) ≡ true)) ⊎ (Has (s - s % 2) d × (fault_by false Return d ≡ Ok tt))
        go (yes e) = let t : Has (s % 2) d = rw e (least_digit s (rw e at h)) in inl (t, (bad_of t).1)
        go (no n) = let t = others_has s d n h in inr (t, (left_of t).1)
split false Next s d l = plain Next s d refl refl
split false Wait s d l = plain Wait s d refl refl
split false (Jump a) s d l = plain (Jump a) s d refl refl
split false (Branch a) s d l = plain (Branch a) s d refl refl
split false (Start u a) s d l = plain (Start u a) s d refl refl
split false Restart s d l = plain Restart s d refl refl
split false End s d l = plain End s d refl refl
split false ComputedJump s d l = plain ComputedJump s d refl refl
split false (ComputedStart u) s d l = plain (ComputedStart u) s d refl refl

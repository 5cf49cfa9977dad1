-- The verdict on an image once more, for checks by computation (document 01, "Examples and faults to shut out"): the numbers seen are the bits of
-- one number, so that a test takes one step and not one for each number seen. A contract cites the plain verdict, to which this one is equal.
use Rattle.std.specs.Prelude.{Err}
use Prim.Native.Nat.{ℕ, zero, suc, ◌+◌, ◌/◌, ◌%◌, ◌^◌}
use mathlib.Core.Path.{◌≡◌, refl, ap, sym, ◌∙◌}
use mathlib.Core.Bool.{Bool, true, false, ◌||◌, cond}
use mathlib.Core.List.{List, [], ◌∷◌, ◌++◌}
use native.Mathlib.Nat.{div-one, zero-div, pow-succ', div-div-eq-div-mul}
use native.Mathlib.Decide.{ℕ_discrete}
use native.Mathlib.Omega.{arith}
use lib.Dec.{eqb, ltb}
use borrow.Author.Tests.{eqb-false, eq-eqb, ne_eqb}
use Rattle.limits.specs.Limits.{marks_length}
use Rattle.image_header.specs.Scan.{header_of, landings_of, blocks_of}
use Rattle.walk_flow.specs.Terms.{Terms, terms_in}
use Rattle.image_header.specs.Scan.{HeaderJudged}
use Rattle.logic.proofs.Choice.{clash}
use Rattle.walk.specs.Graph.{has, closure}
use Rattle.walk.specs.Successors.{next_of}
use Rattle.walk.specs.Blocks.{block_fault_at}
use Rattle.walk.specs.Verdict.{refused_by, root_of, fuel, reached, least_foreign, least_bad, verdict_by, walks_verdict, blocks_verdict, read_verdict, verdict_of}
use Rattle.walk.specs.Verdict.{Verdict}
use Rattle.walk.specs.declared.Refusal.TheVariants as verdict

-- ---- the twin

-- digit q of m in base 2
abbrev digit : ℕ → ℕ → ℕ
digit m q = m / 2 ^ q % 2

abbrev pub bit : ℕ → ℕ → Bool
bit m q = eqb (m / 2 ^ q % 2) 1

-- `closure`, where the bits of m are the numbers seen
unfoldable pub closure_fast : (ℕ → List ℕ) → ℕ → List ℕ → ℕ → List ℕ → List ℕ
closure_fast next zero todo m seen = seen
closure_fast next (suc f) [] m seen = seen
closure_fast next (suc f) (p ∷ todo) m seen =
    elim (bit m p) [ true ↦ closure_fast next f todo m seen | false ↦ closure_fast next f (next p ++ todo) (m + 2 ^ p) (p ∷ seen) ]

-- the verdict by the points reached, told by their numbers
abbrev pub verdict_among : Terms → List ℕ → List ℕ → Verdict
verdict_among h bs is = verdict_by h bs (least_foreign h bs is) (least_bad h bs is)

unfoldable pub walks_fast : Terms → List ℕ → Verdict
walks_fast h bs = verdict_among h bs (closure_fast (next_of h bs) fuel (root_of h ∷ []) 0 [])

unfoldable pub blocks_fast : Terms → List ℕ → ℕ → ℕ → Verdict
blocks_fast h bs b zero = walks_fast h bs
blocks_fast h bs b (suc n) = refused_by (λ f. verdict.Block f b) (block_fault_at h bs b) (blocks_fast h bs (b + 1) n)

unfoldable pub read_fast : HeaderJudged → List ℕ → List ℕ → Verdict
read_fast r ls bs = refused_by verdict.Image r.result (blocks_fast (terms_in r ls) bs 0 r.header.count)

unfoldable pub verdict_fast : List ℕ → ℕ → Verdict
verdict_fast image n = cond (ltb n marks_length) (Err (verdict.MarksShort n)) (read_fast (header_of image) (landings_of image) (blocks_of image))

-- ---- a digit added where there was none changes that digit alone

digit_zero : (m : ℕ) → digit m 0 ≡ m % 2
digit_zero m = ap (λ (x : ℕ). x % 2) (div-one m)

digit_suc : (m q : ℕ) → digit m (suc q) ≡ digit (m / 2) q
digit_suc m q = ap (λ (x : ℕ). m / x % 2) (pow-succ' 2 q) ∙ ap (λ (x : ℕ). x % 2) (sym (div-div-eq-div-mul m 2 (2 ^ q)))

half_add : (m p : ℕ) → (m + 2 ^ suc p) / 2 ≡ m / 2 + 2 ^ p
half_add m p = rw (pow-succ' 2 p) (omega arith)

digit_same : (p m : ℕ) → digit m p ≡ 0 → digit (m + 2 ^ p) p ≡ 1
digit_same zero m e = digit_zero (m + 1) ∙ omega (arith, sym (digit_zero m) ∙ e)
digit_same (suc p) m e =
    digit_suc (m + 2 ^ suc p) p ∙ ap (λ (x : ℕ). digit x p) (half_add m p) ∙ digit_same p (m / 2) (sym (digit_suc m p) ∙ e)

digit_other : (p m q : ℕ) → digit m p ≡ 0 → (q ≡ p → ⊥) → digit (m + 2 ^ p) q ≡ digit m q
digit_other zero m zero e n = absurd (n refl)
digit_other zero m (suc q) e n =
    let z : (m + 1) / 2 ≡ m / 2 = omega (arith, sym (digit_zero m) ∙ e) in
    digit_suc (m + 1) q ∙ ap (λ (x : ℕ). digit x q) z ∙ sym (digit_suc m q)
digit_other (suc p) m zero e n = digit_zero (m + 2 ^ suc p) ∙ omega (arith, pow-succ' 2 p) ∙ sym (digit_zero m)
digit_other (suc p) m (suc q) e n =
    digit_suc (m + 2 ^ suc p) q ∙ ap (λ (x : ℕ). digit x q) (half_add m p)
    ∙ digit_other p (m / 2) q (sym (digit_suc m p) ∙ e) (λ i. n (ap suc i)) ∙ sym (digit_suc m q)

-- ---- the twins are equal

-- the bits of m are the numbers of a list
abbrev Bits : ℕ → List ℕ → Type 0
Bits m seen = (q : ℕ) → bit m q ≡ has seen q

bits_more : (m p : ℕ) (seen : List ℕ) → Bits m seen → bit m p ≡ false → Bits (m + 2 ^ p) (p ∷ seen)
bits_more m p seen k e q = go (ℕ_discrete q p)
  where
    off : digit m p ≡ 0
    off = let n = eqb-false (digit m p) 1 e in omega arith

    go : Dec (q ≡ p) → bit (m + 2 ^ p) q ≡ (eqb q p || has seen q)
    go (yes i) = rw (eq-eqb q p i, i) (eq-eqb _ 1 (digit_same p m off))
    go (no n) = rw (ne_eqb q p n, digit_other p m q off n) (k q)

closure_same : (next : ℕ → List ℕ) (f : ℕ) (todo : List ℕ) (m : ℕ) (seen : List ℕ) → Bits m seen
    → closure_fast next f todo m seen ≡ closure next f todo seen
unfolding closure_fast closure
closure_same next zero todo m seen k = refl
closure_same next (suc f) [] m seen k = refl
closure_same next (suc f) (p ∷ todo) m seen k =
    go (bit m p) (has seen p) refl (k p) (closure_same next f todo m seen k) (closure_same next f (next p ++ todo) (m + 2 ^ p) (p ∷ seen))
  where
    go : (t u : Bool) → bit m p ≡ t → t ≡ u
        → closure_fast next f todo m seen ≡ closure next f todo seen
        → (Bits (m + 2 ^ p) (p ∷ seen) → closure_fast next f (next p ++ todo) (m + 2 ^ p) (p ∷ seen) ≡ closure next f (next p ++ todo) (p ∷ seen))
        → ◌≡◌ {A = List ℕ} (elim t [ true ↦ closure_fast next f todo m seen | false ↦ closure_fast next f (next p ++ todo) (m + 2 ^ p) (p ∷ seen) ])
        (elim u [ true ↦ closure next f todo seen | false ↦ closure next f (next p ++ todo) (p ∷ seen) ])
    go true true e i old new = old
    go true false e i old new = clash i
    go false true e i old new = clash (sym i)
    go false false e i old new = new (bits_more m p seen k e)

no_bits : Bits 0 []
no_bits q = rw (zero-div (2 ^ q)) refl

-- over any fuel: its numeral comes last
reached_same : (h : Terms) (bs : List ℕ) (f : ℕ)
    → verdict_among h bs (closure_fast (next_of h bs) f (root_of h ∷ []) 0 []) ≡ verdict_among h bs (closure (next_of h bs) f (root_of h ∷ []) [])
reached_same h bs f = ap (verdict_among h bs) (closure_same (next_of h bs) f (root_of h ∷ []) 0 [] no_bits)

walks_same : (h : Terms) (bs : List ℕ) → walks_fast h bs ≡ walks_verdict h bs
unfolding walks_fast walks_verdict reached
walks_same h bs = reached_same h bs fuel

blocks_same : (h : Terms) (bs : List ℕ) (b n : ℕ) → blocks_fast h bs b n ≡ blocks_verdict h bs b n
unfolding blocks_fast blocks_verdict
blocks_same h bs b zero = walks_same h bs
blocks_same h bs b (suc n) =
    ap (refused_by (λ f. verdict.Block f b) (block_fault_at h bs b)) (blocks_same h bs (b + 1) n)

read_same : (r : HeaderJudged) (ls bs : List ℕ) → read_fast r ls bs ≡ read_verdict r ls bs
unfolding read_fast read_verdict
read_same r ls bs = ap (refused_by verdict.Image r.result) (blocks_same (terms_in r ls) bs 0 r.header.count)

pub fast_is : (image : List ℕ) (n : ℕ) → verdict_fast image n ≡ verdict_of image n
unfolding verdict_fast verdict_of
fast_is image n = ap (λ (v : Verdict). cond (ltb n marks_length) (Err (verdict.MarksShort n)) v) (read_same (header_of image) (landings_of image) (blocks_of image))

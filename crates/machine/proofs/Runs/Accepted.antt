-- What an accepted image promises to a run: its header was read, each block passes 5 to 8 and 23, and each point that a walk reaches breaks nothing.
use Rattle.std.specs.Prelude.{Ok, Err}
use Prim.Native.Nat.{ℕ, ◌<◌}
use mathlib.Core.Path.{◌≡◌, refl, sym, ap}
use mathlib.Core.Bool.{true}
use mathlib.Core.List.{List, ◌∷◌}
use Rattle.image_result.specs.ImageResult.{done}
use Rattle.image_header.specs.Scan.{header_of, blocks_of}
use Rattle.walk_flow.specs.Terms.{Terms, terms_of}
use Rattle.logic.proofs.Choice.{clash}
use Rattle.walk.proofs.Points.Bounds.{image_bounds}
use Rattle.walk_fault.specs.Fault.{is_foreign, is_bad}
use Rattle.walk_flow.specs.Flow.{flow_of}
use Rattle.walk_point.specs.declared.Point.{Point}
use Rattle.walk_fault.specs.Fault.{FaultResult}
use Rattle.walk_fault.specs.declared.Fault.TheVariants.{Foreign, Forbidden, TooDeep, NoCall, PastEnd}
use Rattle.walk.specs.Blocks.{command_at, fault_at, block_number}
use Rattle.walk.specs.Walk.{Walk, Reaches}
use Rattle.walk.specs.Graph.{In}
use Rattle.walk.specs.Successors.{leads_to, WalkBounds}
use Rattle.walk.specs.Verdict.{verdict_of, is_accepted}
use Rattle.walk.specs.IsVerdict.{IsWalksVerdict, IsVerdict}
use Rattle.walk.specs.Verdict.{Verdict}
use Rattle.walk.proofs.Verdicts.OfImage.{verdict_judges}
use Rattle.image_result.proofs.Done.{is_done}
use Rattle.walk.proofs.Points.Within.{Within, Passes, passes}
use Rattle.walk.proofs.Steps.AsMoves.{follow_step}
use Rattle.walk.proofs.Steps.History.{reached_within}

abbrev pub hd : List ℕ → Terms
hd image = terms_of image

abbrev pub body : List ℕ → List ℕ
body image = blocks_of image

pub record Accepted (image : List ℕ) : Type 0 where
  pub read : done (header_of image).result ≡ true
  pub blocks : (b : ℕ) → b < (hd image).header.count → block_number (hd image) (body image) b ≡ 0
  pub fine : (p : Point) → Reaches (hd image) (body image) p → fault_at (hd image) (body image) p ≡ Ok tt

-- a fault that is neither foreign nor bad is none
none : (f : FaultResult) → (is_foreign f ≡ true → ⊥) → (is_bad f ≡ true → ⊥) → f ≡ Ok tt
none (Ok _) n m = refl
none (Err Foreign) n m = absurd (n refl)
none (Err Forbidden) n m = absurd (m refl)
none (Err TooDeep) n m = absurd (m refl)
none (Err NoCall) n m = absurd (m refl)
none (Err PastEnd) n m = absurd (m refl)

module _ (image : List ℕ) where
  said : (v : Verdict) → is_accepted v ≡ true → IsWalksVerdict (hd image) (body image) v → (p : Point) → Reaches (hd image) (body image) p
      → fault_at (hd image) (body image) p ≡ Ok tt
  said _ e (IsWalksVerdict.accepted f b) p r = none (fault_at (hd image) (body image) p) (λ t. f p (r, t)) (λ t. b p (r, t))
  said _ e (IsWalksVerdict.foreign q k l) p r = clash (sym e)
  said _ e (IsWalksVerdict.bad f q k l g i) p r = clash (sym e)

  judged : (n : ℕ) (v : Verdict) → is_accepted v ≡ true → IsVerdict image n v → Accepted image
  judged n _ e (IsVerdict.marks l) = clash (sym e)
  judged n _ e (IsVerdict.header l f i) = clash (sym e)
  judged n _ e (IsVerdict.block l f b i all g k) = clash (sym e)
  judged n _ e (IsVerdict.walks l f all v s) = record { read = f; blocks = all; fine = said v e s }

  pub accepted : (n : ℕ) → verdict_of image n ≡ Ok tt → Accepted image
  accepted n e = judged n (verdict_of image n) (ap is_accepted e) (verdict_judges image n)

  -- ---- points that are reached

  module _ (ok : Accepted image) where
    abbrev h : Terms
    h = hd image

    abbrev bs : List ℕ
    bs = body image

    pub bounds : WalkBounds h
    bounds = image_bounds image (is_done _ ok.read)

    pub within : (p : Point) → Reaches h bs p → Within h p
    within p r = reached_within h bs bounds p r

    pub passing : (p : Point) → Reaches h bs p → Passes h (command_at bs p.block) p
    unfolding fault_at
    passing p r = passes h (command_at bs p.block) p (ok.fine p r)

    -- what follows a point that is reached is reached
    pub reach_next : (p q : Point) → Reaches h bs p → In q (leads_to h.landings p (flow_of h (command_at bs p.block))) → Reaches h bs q
    reach_next p q r m = record {
      path = p ∷ r.path;
      walk = Walk.onward q r.walk (ok.fine p r)
          (follow_step h bs (p ∷ r.path) p (command_at bs p.block) (passing p r).allowed q m);
    }

-- The computed verdict on an image is what the definition asks of one: 13, the header, the first bad block, and else what walks say; and an image has
-- one verdict.
use Rattle.std.specs.Prelude.{Ok, Err}
use Prim.Native.Nat.{ℕ, zero, suc, ◌+◌, ◌<◌, ◌≤◌}
use mathlib.Core.Path.{◌≡◌, refl, sym, ap, ap₂, ◌∙◌}
use mathlib.Core.Bool.{Bool, true, false, cond}
use mathlib.Core.Logic.{◌↔◌}
use mathlib.Core.List.{List}
use native.Mathlib.Omega.{arith}
use lib.Dec.{ltb}
use borrow.Author.Tests.{ltb-true, ltb-false}
use borrow.Author.Count.{below_more}
use Rattle.limits.specs.Limits.{marks_length}
use Rattle.image_result.proofs.Done.{is_done}
use Rattle.image_result.specs.ImageResult.{ImageResult, done}
use Rattle.image_result.specs.declared.ImageFault.{ImageFault}
use Rattle.command_judge.specs.BlockFault.{BlockResult, block_fault_number}
use Rattle.command_judge.specs.declared.BlockFault.{BlockFault}
use Rattle.command_judge.proofs.Numbers.{refused_number}
use Rattle.image_header.specs.Scan.{header_of, landings_of, blocks_of}
use Rattle.walk_flow.specs.Terms.{Terms, terms_of}
use Rattle.logic.proofs.Choice.{clash, by}
use Rattle.walk.specs.Successors.{WalkBounds}
use Rattle.walk.proofs.Points.Bounds.{image_bounds}
use Rattle.walk.specs.Blocks.{block_fault_at}
use Rattle.walk.specs.Verdict.{refused_by, walks_verdict, blocks_verdict, read_verdict, verdict_of}
use Rattle.walk.specs.IsVerdict.{BlockPasses, IsVerdict}
use Rattle.walk.specs.Verdict.{Verdict}
use Rattle.walk.specs.declared.Refusal.TheVariants as verdict
use Rattle.walk.proofs.Verdicts.OfWalks.{same_fault, verdict_says, one_verdict}

module _ (image : List ℕ) (n : ℕ) where
  abbrev h : Terms
  h = terms_of image

  abbrev bs : List ℕ
  bs = blocks_of image

  module _ (read : done (header_of image).result ≡ true) where
    bounds : WalkBounds h
    bounds = image_bounds image (is_done _ read)

    module _ (room : marks_length ≤ n) where
      -- the blocks before b pass; k are left
      blocks_judged : (k b : ℕ) → b + k ≡ h.header.count → ((a : ℕ) → a < b → BlockPasses h bs a) → IsVerdict image n (blocks_verdict h bs b k)
      unfolding blocks_verdict
      blocks_judged zero b e all =
          IsVerdict.walks room read (λ a l. all a (omega arith)) (walks_verdict h bs) (verdict_says h bs bounds)
      blocks_judged (suc k) b e all =
          go (block_fault_at h bs b) refl (λ p. blocks_judged k (b + 1) (omega arith) (below_more _ _ all p))
        where
          go : (r : BlockResult) → block_fault_at h bs b ≡ r → (BlockPasses h bs b → IsVerdict image n (blocks_verdict h bs (b + 1) k))
              → IsVerdict image n (refused_by (λ f. verdict.Block f b) r (blocks_verdict h bs (b + 1) k))
          go (Ok _) i later = later (ap block_fault_number i)
          go (Err f) i later = IsVerdict.block room read b (omega arith) all f i

  -- the verdict is what the definition asks for
  pub verdict_judges : IsVerdict image n (verdict_of image n)
  unfolding verdict_of read_verdict
  verdict_judges = first (ltb n marks_length) refl
    where
      second : marks_length ≤ n → (r : ImageResult) → (header_of image).result ≡ r
          → IsVerdict image n (refused_by verdict.Image r (blocks_verdict h bs 0 h.header.count))
      second room (Ok _) e = blocks_judged (ap done e) room h.header.count 0 (omega arith) (λ a l. absurd (omega arith))
      second room (Err f) e = IsVerdict.header room f e

      first : (t : Bool) → ltb n marks_length ≡ t → IsVerdict image n (cond t (Err (verdict.MarksShort n)) (read_verdict (header_of image) (landings_of image) bs))
      first true e = IsVerdict.marks (ltb-true _ _ e)
      first false e = second (ltb-false _ _ e) (header_of image).result refl

  -- ---- an image has one verdict

  first_block : (b c : ℕ) → ((a : ℕ) → a < b → BlockPasses h bs a) → (BlockPasses h bs b → ⊥) → ((a : ℕ) → a < c → BlockPasses h bs a)
      → (BlockPasses h bs c → ⊥) → b ≡ c
  first_block b c all bad also worse =
      by b c (λ l. absurd (bad (also b l))) (λ l. by c b (λ m. absurd (worse (all c m))) (λ m. omega arith))

  not_passing : (b : ℕ) (f : BlockFault) → block_fault_at h bs b ≡ Err f → BlockPasses h bs b → ⊥
  not_passing b f e p = refused_number f (sym (ap block_fault_number e) ∙ p)

  not_read : {A : Type 0} (f : ImageFault) → (header_of image).result ≡ Err f → done (header_of image).result ≡ true → A
  not_read f e d = clash (sym d ∙ ap done e)

  one_judgement : (v w : Verdict) → IsVerdict image n v → IsVerdict image n w → v ≡ w
  one_judgement _ _ (IsVerdict.marks l) (IsVerdict.marks m) = refl
  one_judgement _ _ (IsVerdict.marks l) (IsVerdict.header m f e) = absurd (omega arith)
  one_judgement _ _ (IsVerdict.marks l) (IsVerdict.block m e b i all f w) = absurd (omega arith)
  one_judgement _ _ (IsVerdict.marks l) (IsVerdict.walks m e all v s) = absurd (omega arith)
  one_judgement _ _ (IsVerdict.header m f e) (IsVerdict.marks l) = absurd (omega arith)
  one_judgement _ _ (IsVerdict.header m f e) (IsVerdict.header o g k) = ap (λ (x : ImageFault). Err (verdict.Image x)) (same_fault f g (sym e ∙ k))
  one_judgement _ _ (IsVerdict.header m f e) (IsVerdict.block o k b i all g w) = not_read f e k
  one_judgement _ _ (IsVerdict.header m f e) (IsVerdict.walks o k all v s) = not_read f e k
  one_judgement _ _ (IsVerdict.block m e b i all g w) (IsVerdict.marks l) = absurd (omega arith)
  one_judgement _ _ (IsVerdict.block m e b i all g w) (IsVerdict.header o f k) = not_read f k e
  one_judgement _ _ (IsVerdict.block m e b i all g w) (IsVerdict.block o f c j also k x) =
      let s = first_block b c all (not_passing b g w) also (not_passing c k x) in
      let q : g ≡ k = same_fault g k (sym w ∙ ap (block_fault_at h bs) s ∙ x) in
      ap₂ (λ (f : BlockFault) (a : ℕ). Err (verdict.Block f a)) q s
  one_judgement _ _ (IsVerdict.block m e b i all g w) (IsVerdict.walks o f also v s) = absurd (not_passing b g w (also b i))
  one_judgement _ _ (IsVerdict.walks m e all v s) (IsVerdict.marks l) = absurd (omega arith)
  one_judgement _ _ (IsVerdict.walks m e all v s) (IsVerdict.header o f k) = not_read f k e
  one_judgement _ _ (IsVerdict.walks m e all v s) (IsVerdict.block o f b i also g w) = absurd (not_passing b g w (all b i))
  one_judgement _ _ (IsVerdict.walks m e all v s) (IsVerdict.walks o f also w t) = one_verdict h bs (bounds e) v w s t

  -- so a verdict is right exactly when it is the computed one
  pub exactly : (v : Verdict) → IsVerdict image n v ↔ (v ≡ verdict_of image n)
  exactly v = (λ j. one_judgement v (verdict_of image n) j verdict_judges, λ e. rw e verdict_judges)

-- What a load answers is what part 7 of demand 3 asks for, and nothing else; it answers 0 only where the image is accepted, and then the buffer holds
-- the fresh state.
use Rattle.std.specs.Prelude.{Ok, Err}
use Prim.Native.Nat.{ℕ, ◌<◌, ◌≤◌}
use native.Mathlib.Omega.{arith}
use mathlib.Core.Path.{◌≡◌, refl, sym, ap, ◌∙◌, subst}
use mathlib.Core.Bool.{Bool, true, false}
use mathlib.Core.Logic.{◌↔◌, ◌⊎◌, inl, inr, ⊎_elim}
use mathlib.Core.List.{List}
use lib.Dec.{eqb}
use lib.ListN.{length}
use borrow.Author.Tests.{eqb-true, eqb-false}
use Rattle.limits.specs.Limits.{marks_length, state_length}
use Rattle.image_result.specs.ImageResult.{result_number, done}
use Rattle.image_result.specs.declared.ImageFault.{ImageFault}
use Rattle.command_judge.specs.BlockFault.{block_fault_number}
use Rattle.command_judge.proofs.Numbers.{refused_number}
use Rattle.image_result.specs.declared.ImageFault.TheVariants.{EndsEarly, NotShortest, OutOfRange, LeftOver, NoRoom, BadLanding}
use Rattle.image_header.specs.Scan.{blocks_of}
use Rattle.image_header.specs.Longest.{longest_image}
use Rattle.image_header.proofs.Longest.{longest_image_lem}
use Rattle.logic.proofs.Choice.{clash, by}
use Rattle.walk_fault.specs.Fault.{is_bad, fault_number}
use Rattle.walk_fault.specs.Fault.{FaultResult}
use Rattle.walk_fault.specs.declared.Fault.TheVariants as fault
use Rattle.walk_flow.specs.Terms.{terms_of}
use Rattle.walk.specs.IsVerdict.{NoForeign, IsWalksVerdict, IsVerdict}
use Rattle.walk.specs.Verdict.{verdict_number, verdict_of, is_accepted}
use Rattle.walk.specs.Verdict.{Verdict}
use Rattle.walk.proofs.Verdicts.OfImage.{verdict_judges, exactly}
use Rattle.state_layout.specs.Layout.{encoded}
use Rattle.machine.specs.Theorem.{loaded}
use Rattle.bias_results.specs.Results.{verdict_for}
use Rattle.bias_results.specs.declared.BiasVerdict.{BiasVerdict}
use Rattle.bias.specs.Load.{Load, load}
use Rattle.proved_demands.specs.Theorem.{Loads, LoadOf, WellFormed, SomeBad, SomeForeign, RefusedExactly}
use Rattle.bias.proofs.ByTest.{marks_short, no_buffer, of_image, verdict_is, stays, begins}

module _ (image : List ℕ) (n : ℕ) (b : List ℕ) where
  -- by cases: 13, 16, or the image
  ways : {P : Type 0} → (n < marks_length → P) → (marks_length ≤ n → (length b ≡ state_length → ⊥) → P) → (marks_length ≤ n → length b ≡ state_length → P) → P
  ways {P} short wrong right = by n marks_length short (λ room. go room (eqb (length b) state_length) refl)
    where
      go : marks_length ≤ n → (t : Bool) → eqb (length b) state_length ≡ t → P
      go room true e = right room (eqb-true _ _ e)
      go room false e = wrong room (eqb-false _ _ e)

  answered : (l : Load) → load image n b ≡ l → (load image n b).verdict ≡ l.verdict
  answered l e = ap (λ (m : Load). m.verdict) e

  -- part 7
  pub loads : Loads image n b (load image n b).verdict
  loads =
      ways
      (λ short. subst (Loads image n b) (sym (answered _ (marks_short image n b short))) (Loads.marks short))
      (λ room wrong. subst (Loads image n b) (sym (answered _ (no_buffer image n b room wrong))) (Loads.buffer room wrong))
      (λ room right.
      let e = answered _ (of_image image n b room right) ∙ verdict_is image (verdict_of image n) b in
      subst (Loads image n b) (sym e) (Loads.judged room right (verdict_of image n) (verdict_judges image n)))

  pub loads_only : (v : BiasVerdict) → Loads image n b v → v ≡ (load image n b).verdict
  loads_only _ (Loads.marks short) = sym (answered _ (marks_short image n b short))
  loads_only _ (Loads.buffer room wrong) = sym (answered _ (no_buffer image n b room wrong))
  loads_only _ (Loads.judged room right v j) =
      ap verdict_for ((exactly image n v).0 j) ∙ sym (answered _ (of_image image n b room right) ∙ verdict_is image (verdict_of image n) b)

  -- ---- a load that answers 0

  not_zero : (o : ImageFault) → result_number (Err o) ≡ 0 → ⊥
  not_zero (EndsEarly p) e = omega arith
  not_zero (NotShortest p) e = omega arith
  not_zero (OutOfRange p) e = omega arith
  not_zero (LeftOver p) e = omega arith
  not_zero (NoRoom p) e = omega arith
  not_zero (BadLanding p) e = omega arith

  bad_number : (f : FaultResult) → is_bad f ≡ true → fault_number f ≡ 0 → ⊥
  bad_number (Ok _) d e = clash (sym d)
  bad_number (Err fault.Foreign) d e = clash (sym d)
  bad_number (Err fault.Forbidden) d e = omega arith
  bad_number (Err fault.TooDeep) d e = omega arith
  bad_number (Err fault.NoCall) d e = omega arith
  bad_number (Err fault.PastEnd) d e = omega arith

  not_accepted : (v : Verdict) → (verdict_number v ≡ 0 → ⊥) → is_accepted v ≡ false
  not_accepted (Ok _) d = absurd (d refl)
  not_accepted (Err r) d = refl

  accepted_says : {v : Verdict} → IsVerdict image n v → verdict_number v ≡ 0 → v ≡ Ok tt
  accepted_says (IsVerdict.marks short) e = absurd (omega arith)
  accepted_says (IsVerdict.header room f d) e = absurd (not_zero f e)
  accepted_says (IsVerdict.block room d c l all f w) e = absurd (refused_number f e)
  accepted_says (IsVerdict.walks room d all v (IsWalksVerdict.accepted f g)) e = refl
  accepted_says (IsVerdict.walks room d all v (IsWalksVerdict.foreign p f g)) e = absurd (omega arith)
  accepted_says (IsVerdict.walks room d all v (IsWalksVerdict.bad f p q g w k)) e = absurd (bad_number (Err w) (sym (ap is_bad k) ∙ q.1) e)

  -- the number of a load that comes to the image is that of its verdict
  number_is : marks_length ≤ n → length b ≡ state_length → (load image n b).verdict.number ≡ verdict_number (verdict_of image n)
  number_is room right = ap (λ (v : BiasVerdict). v.number) (answered _ (of_image image n b room right) ∙ verdict_is image (verdict_of image n) b)

  -- a load that answers 0 comes to the image
  zero_way : {P : Type 0} → (load image n b).verdict.number ≡ 0 → (marks_length ≤ n → length b ≡ state_length → P) → P
  zero_way z f =
      ways
      (λ short. let e = ap (λ (v : BiasVerdict). v.number) (answered _ (marks_short image n b short)) in absurd (omega arith))
      (λ room wrong. let e = ap (λ (v : BiasVerdict). v.number) (answered _ (no_buffer image n b room wrong)) in absurd (omega arith))
      f

  pub accepted_load : (load image n b).verdict.number ≡ 0 → verdict_of image n ≡ Ok tt
  accepted_load z = zero_way z (λ room right. accepted_says (verdict_judges image n) (sym (number_is room right) ∙ z))

  pub fresh_load : (load image n b).verdict.number ≡ 0 → (load image n b).buffer ≡ encoded (loaded image)
  fresh_load z =
      zero_way z
      (λ room right. ap (λ (m : Load). m.buffer) (of_image image n b room right) ∙ begins image (verdict_of image n) b (ap is_accepted (accepted_load z)))

  pub kept_load : ((load image n b).verdict.number ≡ 0 → ⊥) → (load image n b).buffer ≡ b
  kept_load d =
      ways
      (λ short. ap (λ (m : Load). m.buffer) (marks_short image n b short))
      (λ room wrong. ap (λ (m : Load). m.buffer) (no_buffer image n b room wrong))
      (λ room right.
      ap (λ (m : Load). m.buffer) (of_image image n b room right)
      ∙ stays image (verdict_of image n) b (not_accepted (verdict_of image n) (λ z. d (number_is room right ∙ z))))

  pub load_of : LoadOf image n b
  load_of = record { answer = λ v. (loads_only v, λ e. rw e loads); accepted = fresh_load; refused = kept_load }

  -- what a load answers 0 to is well formed, in both readings
  fits_well : marks_length ≤ n → length b ≡ state_length → {v : Verdict} → IsVerdict image n v → verdict_number v ≡ 0
      → WellFormed image n b × NoForeign (terms_of image) (blocks_of image)
  fits_well room right (IsVerdict.marks short) e = absurd (omega arith)
  fits_well room right (IsVerdict.header m f d) e = absurd (not_zero f e)
  fits_well room right (IsVerdict.block m d c l all f w) e = absurd (refused_number f e)
  fits_well room right (IsVerdict.walks m d all v (IsWalksVerdict.accepted f g)) e = (record { marks = room; buffer = right; header = d; blocks = all }, f)
  fits_well room right (IsVerdict.walks m d all v (IsWalksVerdict.foreign p f g)) e = absurd (omega arith)
  fits_well room right (IsVerdict.walks m d all v (IsWalksVerdict.bad f p q g w k)) e = absurd (bad_number (Err w) (sym (ap is_bad k) ∙ q.1) e)

  pub well_formed : (load image n b).verdict.number ≡ 0 → WellFormed image n b × NoForeign (terms_of image) (blocks_of image)
  well_formed z = zero_way z (λ room right. fits_well room right (verdict_judges image n) (sym (number_is room right) ∙ z))

  -- so it is no longer than the longest image (include/bias.h)
  pub longest_load : (load image n b).verdict.number ≡ 0 → length image ≤ longest_image
  longest_load z = longest_image_lem image (well_formed z).0.header

  -- ---- refused exactly when some walk reaches a bad place or a 51 that would end another task

  module _ (w : WellFormed image n b) where
    both_ways : {v : Verdict} → IsVerdict image n v → (verdict_number v ≡ 0 → ⊥) ↔ (SomeBad image ⊎ SomeForeign image)
    both_ways (IsVerdict.marks short) = absurd (let m = w.marks in omega arith)
    both_ways (IsVerdict.header room f d) = clash (sym w.header ∙ ap done d)
    both_ways (IsVerdict.block room d c l all f bad) = absurd (refused_number f (sym (ap block_fault_number bad) ∙ w.blocks c l))
    both_ways (IsVerdict.walks room d all v (IsWalksVerdict.accepted f g)) =
        (λ r. absurd (r refl), λ s. absurd (⊎_elim (λ (a : SomeBad image). g a.place a.bad) (λ (a : SomeForeign image). f a.place a.foreign) s))
    both_ways (IsVerdict.walks room d all v (IsWalksVerdict.foreign p f g)) = (λ r. inr (record { place = p; foreign = f }), λ s e. omega arith)
    both_ways (IsVerdict.walks room d all v (IsWalksVerdict.bad f p q g h k)) =
        (λ r. inl (record { place = p; bad = q }), λ s e. bad_number (Err h) (sym (ap is_bad k) ∙ q.1) e)

    refused_by_form : ((load image n b).verdict.number ≡ 0 → ⊥) ↔ (SomeBad image ⊎ SomeForeign image)
    refused_by_form =
        let e = both_ways (verdict_judges image n) in
        let m = number_is w.marks w.buffer in
        (λ r. e.0 (λ z. r (m ∙ z)), λ s z. e.1 s (sym m ∙ z))

    -- where no walk reaches such a 51
    refused_by_place : NoForeign (terms_of image) (blocks_of image) → ((load image n b).verdict.number ≡ 0 → ⊥) ↔ SomeBad image
    refused_by_place own = (
      λ r. ⊎_elim (λ (a : SomeBad image). a) (λ (a : SomeForeign image). absurd (own a.place a.foreign)) (refused_by_form.0 r),
      λ s.
          refused_by_form.1 (inl s),
    )

pub refused_exactly : RefusedExactly
refused_exactly = record { by_form = refused_by_form; by_place = refused_by_place }

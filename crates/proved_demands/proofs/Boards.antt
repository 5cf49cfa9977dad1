-- 6 and 23 as C sees them (change request 3): what a load that answers one of them says of the block that it names, and that a step answers 17 for either and
-- never 23. What a block by itself gives stands in command_judge/proofs/Boards.antt.
use Rattle.std.specs.Prelude.{None, Err, Ok}
use Prim.Native.Nat.{ℕ}
use native.Mathlib.Omega.{arith}
use mathlib.Core.Path.{◌≡◌, refl, sym, ap, subst, ◌∙◌}
use mathlib.Core.Bool.{Bool, false, ◌||◌, and-false}
use mathlib.Core.Logic.{◌↔◌}
use mathlib.Core.List.{List}
use lib.Dec.{T, eqb}
use lib.ListN.{length}
use borrow.Author.Tests.{ne_eqb}
use Rattle.limits.specs.Limits.{state_length}
use Rattle.num_le.specs.LittleEndian.{Bytes}
use Rattle.drive.specs.Types.{type631}
use Rattle.image_result.specs.ImageResult.{result_number}
use Rattle.image_result.specs.declared.ImageFault.{ImageFault}
use Rattle.walk.specs.Verdict.{refused_by}
use Rattle.image_result.specs.declared.ImageFault.TheVariants.{EndsEarly, NotShortest, OutOfRange, LeftOver, NoRoom, BadLanding}
use Rattle.image_header.specs.Scan.{header_of, blocks_of}
use Rattle.image_header.specs.declared.Header.{Header}
use Rattle.command_judge.specs.BlockFault.{block_fault_number}
use Rattle.command_judge.specs.Boards.{Buyable, OtherDrive}
use Rattle.command_judge.specs.BlockFault.{BlockResult}
use Rattle.command_judge.specs.declared.BlockFault.TheVariants as block
use Rattle.command_judge.proofs.Numbers.{number_tells}
use Rattle.command_judge.proofs.Boards.{buyable, by_6_exactly, never_on_631}
use Rattle.walk_fault.specs.Fault.{fault_number}
use Rattle.walk_fault.specs.Fault.{FaultResult}
use Rattle.walk_fault.specs.declared.Fault.TheVariants as fault
use Rattle.walk_flow.specs.Terms.{terms_of}
use Rattle.walk.specs.Blocks.{block_at, block_fault_at, block_number}
use Rattle.walk.specs.IsVerdict.{IsWalksVerdict, IsVerdict}
use Rattle.walk.specs.Verdict.{verdict_number}
use Rattle.walk.specs.Verdict.{Verdict}
use Rattle.walk.specs.declared.Refusal.TheVariants as verdict
use Rattle.state.specs.State.{task_at}
use Rattle.state_layout.specs.Layout.{decoded}
use Rattle.machine.specs.Inputs.{Inputs}
use Rattle.machine.specs.Engine.{point_of, fits, terms_held}
use Rattle.machine.specs.Numbers.{cause_number}
use Rattle.machine.specs.declared.Cause.{Cause}
use Rattle.machine.specs.declared.Cause.TheVariants.{ZeroDivisor, BadContent, NoLanding}
use Rattle.machine.specs.declared.NotDone.TheVariants.{Differs}
use Rattle.bias_results.specs.Results.{verdict_for, answer_for}
use Rattle.bias_results.specs.declared.BiasAnswer.{BiasAnswer}
use Rattle.bias_results.specs.declared.BiasVerdict.{BiasVerdict}
use Rattle.bias.specs.Load.{load}
use Rattle.bias.specs.Step.{stepped}
use Rattle.proved_demands.specs.Boards.{FirstFault}
use Rattle.proved_demands.specs.Every.{Running, Way}
use Rattle.proved_demands.specs.Theorem.{Loads}
use Rattle.proved_demands.proofs.EveryStep.{every_step}
use Rattle.proved_demands.proofs.Loads.{loads, loads_only}

-- ---- 6 and 23 come from blocks alone

abbrev of_drive : ℕ → Bool
of_drive m = eqb m 6 || eqb m 23

not_header : (o : ImageFault) → T (of_drive (result_number (Err o))) → ⊥
not_header (EndsEarly p) t = t
not_header (NotShortest p) t = t
not_header (OutOfRange p) t = t
not_header (LeftOver p) t = t
not_header (NoRoom p) t = t
not_header (BadLanding p) t = t

not_walk : (f : FaultResult) → T (of_drive (fault_number f)) → ⊥
not_walk (Ok _) t = t
not_walk (Err fault.Foreign) t = t
not_walk (Err fault.Forbidden) t = t
not_walk (Err fault.TooDeep) t = t
not_walk (Err fault.NoCall) t = t
not_walk (Err fault.PastEnd) t = t

-- ---- loads

module _ (image : List ℕ) (n : ℕ) (b : List ℕ) where
  abbrev h : Header
  h = (header_of image).header

  abbrev bs : List ℕ
  bs = blocks_of image

  -- the block that the answer names
  abbrev named : ℕ
  named = (load image n b).verdict.place

  -- the first such block is told, with its number
  told_back : (f : BlockResult) (k : ℕ) → T (of_drive (block_fault_number f)) → FirstFault image n b k f
      → (load image n b).verdict ≡ verdict_for (refused_by (λ g. verdict.Block g k) f (Ok tt))
  told_back (Ok _) k t i = absurd t
  told_back (Err f) k t i =
      sym (loads_only image n b _ (Loads.judged i.marks i.buffer _ (IsVerdict.block i.marks i.header k i.block i.before f i.fault)))

  -- what such a number says of the block beside it
  First : BiasVerdict → Type 0
  First v = FirstFault image n b v.place (block_fault_at (terms_of image) bs v.place) × (block_number (terms_of image) bs v.place ≡ v.number)

  of_verdict : length b ≡ state_length → {v : Verdict} → IsVerdict image n v → T (of_drive (verdict_number v)) → First (verdict_for v)
  unfolding First
  of_verdict right (IsVerdict.marks short) t = absurd t
  of_verdict right (IsVerdict.header room f d) t = absurd (not_header f t)
  of_verdict right (IsVerdict.block room d k l all f e) t =
      (record { marks = room; buffer = right; header = d; block = l; before = all; fault = refl }, ap block_fault_number e)
  of_verdict right (IsVerdict.walks room d all v (IsWalksVerdict.accepted f g)) t = absurd t
  of_verdict right (IsVerdict.walks room d all v (IsWalksVerdict.foreign p f g)) t = absurd t
  of_verdict right (IsVerdict.walks room d all v (IsWalksVerdict.bad f p q g w k)) t = absurd (not_walk (Err w) t)

  of_load : {v : BiasVerdict} → Loads image n b v → T (of_drive v.number) → First v
  of_load (Loads.marks short) t = absurd t
  of_load (Loads.buffer room wrong) t = absurd t
  of_load (Loads.judged room right v j) t = of_verdict right j t

  told : (f : BlockResult) → T (of_drive (block_fault_number f)) → (load image n b).verdict.number ≡ block_fault_number f → FirstFault image n b named f
  unfolding First
  told f t e =
      let r = of_load (loads image n b) (subst (λ (m : ℕ). T (of_drive m)) (sym e) t) in
      subst (FirstFault image n b named) (number_tells (block_fault_at (terms_of image) bs named) f (r.1 ∙ e)) r.0

  told_as : (f : BlockResult) (k : ℕ) → T (of_drive (block_fault_number f)) → FirstFault image n b k f
      → ((load image n b).verdict.number ≡ block_fault_number f) × (named ≡ k)
  told_as (Ok _) k t i = absurd t
  told_as (Err f) k t i = let v = told_back (Err f) k t i in (ap (λ (w : BiasVerdict). w.number) v, ap (λ (w : BiasVerdict). w.place) v)

  -- 6 or 23 is answered, with block k, exactly where k is the first block that is refused by itself, and by that
  pub told_exactly : (f : BlockResult) (k : ℕ) → T (of_drive (block_fault_number f))
      → (((load image n b).verdict.number ≡ block_fault_number f) × (named ≡ k)) ↔ FirstFault image n b k f
  told_exactly f k t = (
    λ e. subst (λ (m : ℕ). FirstFault image n b m f) e.1 (told f t e.0),
    λ i. told_as f k t i,
  )

  -- 23: the block named misses a board that can be bought
  pub load_by_23 : (load image n b).verdict.number ≡ 23 → Buyable h (block_at bs named)
  load_by_23 e = buyable h (block_at bs named) (told (Err block.BoardMissing) tt e).fault

  -- 6: the block named asks for another drive
  pub load_by_6 : (load image n b).verdict.number ≡ 6 → OtherDrive h (block_at bs named)
  load_by_6 e = (by_6_exactly h (block_at bs named)).0 (told (Err block.NotOnDrive) tt e).fault

  -- 23 is no answer to a program for a 631
  pub no_23_on_631 : h.drive.model ≡ type631 → (load image n b).verdict.number ≡ 23 → ⊥
  no_23_on_631 z e = never_on_631 h (block_at bs named) z (told (Err block.BoardMissing) tt e).fault

-- ---- steps

halt_is_not : (q : Cause) → cause_number q ≡ 23 → ⊥
halt_is_not ZeroDivisor e = omega arith
halt_is_not BadContent e = omega arith
halt_is_not NoLanding e = omega arith

module _ (image b : List ℕ) (bytes : Bytes image) (own : Bytes b) (x : Inputs) where
  no_way : {a : BiasAnswer} {after : List ℕ} → Way image b x a after → a.number ≡ 23 → ⊥
  no_way (Way.no_task l) e = omega arith
  no_way (Way.bad_inputs l w) e = omega arith
  no_way (Way.no_state k w) e = omega arith
  no_way (Way.not_running k w) e = omega arith
  no_way (Way.differs k w) e = omega arith
  no_way (Way.done k w) e = omega arith
  no_way (Way.halts k q w) e = halt_is_not q e

  -- no step answers 23
  pub step_never_23 : (stepped image b x).answer.number ≡ 23 → ⊥
  step_never_23 = no_way (((every_step image b bytes own x).way (stepped image b x).answer (stepped image b x).buffer).1 (refl, refl))

  -- where a running task stands at a block that 5 to 8 or 23 refuse, the answer is 17 at its point
  pub step_is_17 : Running b x → (block_number (terms_held (decoded b)) (blocks_of image) (task_at (decoded b) x.task).block ≡ 0 → ⊥)
      → (stepped image b x).answer ≡ answer_for None (Err (Differs (point_of x.task (task_at (decoded b) x.task))))
  unfolding fits
  step_is_17 k bad = sym (((every_step image b bytes own x).way _ b).0 (Way.differs k fails)).0
    where
      fails : fits image (terms_held (decoded b)) x.task (task_at (decoded b) x.task) ≡ false
      fails = simp (ne_eqb _ 0 bad, and-false)

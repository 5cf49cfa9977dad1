-- Each way that a load and a step go, by the test that leads there.
use Rattle.std.specs.Prelude.{None, Err}
use Prim.Native.Nat.{ℕ, ◌<◌, ◌≤◌}
use mathlib.Core.Path.{◌≡◌, refl, sym, ap, ◌∙◌}
use mathlib.Core.Bool.{Bool, true, false}
use mathlib.Core.List.{List}
use lib.ListN.{length}
use lib.Dec.{eqb}
use borrow.Author.Tests.{lt-ltb, le-ltb, eq-eqb, ne_eqb, eqb-true, eqb-false}
use Rattle.limits.specs.Limits.{task_count, marks_length, state_length, inputs_length}
use Rattle.logic.proofs.Choice.{by}
use Rattle.walk.specs.Verdict.{verdict_of, is_accepted}
use Rattle.walk.specs.Verdict.{Verdict}
use Rattle.walk.specs.declared.Refusal.TheVariants.{MarksShort}
use Rattle.state_layout.specs.Layout.{decoded, encoded}
use Rattle.state_layout.specs.IsState.{is_state}
use Rattle.machine.specs.Inputs.{Inputs}
use Rattle.machine.specs.Engine.{step}
use Rattle.machine.specs.Theorem.{loaded}
use Rattle.machine.specs.declared.NotDone.TheVariants.{NoTask, Inputs as BadInputs}
use Rattle.bias_results.specs.Results.{no_state, numbered, verdict_for, no_state_answer, answer_for}
use Rattle.bias_results.specs.declared.BiasVerdict.{BiasVerdict}
use Rattle.bias_results.specs.declared.BiasAnswer.{BiasAnswer}
use Rattle.bias.specs.Load.{Load, refuse_load, judged_load, load}
use Rattle.bias.specs.Step.{Stepped, refuse_step, handed, step_state, stepped}

-- ---- loads

module _ (image : List ℕ) (n : ℕ) (b : List ℕ) where
  pub marks_short : n < marks_length → load image n b ≡ refuse_load (verdict_for (Err (MarksShort n))) b
  unfolding load
  marks_short h = rw (lt-ltb n marks_length h)

  pub no_buffer : marks_length ≤ n → (length b ≡ state_length → ⊥) → load image n b ≡ refuse_load (numbered no_state 0) b
  unfolding load
  no_buffer h d = rw (le-ltb n marks_length h, ne_eqb (length b) state_length d)

  pub of_image : marks_length ≤ n → length b ≡ state_length → load image n b ≡ judged_load image (verdict_of image n) b
  unfolding load
  of_image h e = rw (le-ltb n marks_length h, eq-eqb (length b) state_length e)

module _ (image : List ℕ) (v : Verdict) (b : List ℕ) where
  pub verdict_is : (judged_load image v b).verdict ≡ verdict_for v
  unfolding judged_load
  verdict_is = refl

  pub stays : is_accepted v ≡ false → (judged_load image v b).buffer ≡ b
  unfolding judged_load
  stays e = rw e

  pub begins : is_accepted v ≡ true → (judged_load image v b).buffer ≡ encoded (loaded image)
  unfolding judged_load
  begins e = rw e

-- a refused load, as its two promises have it
pub load_refused : (l : Load) (r v : BiasVerdict) (b : List ℕ) → l ≡ refuse_load v b → r ≡ v → (r ≡ l.verdict) × (b ≡ l.buffer)
load_refused l r v b e q = (q ∙ ap (λ (m : Load). m.verdict) (sym e), ap (λ (m : Load). m.buffer) (sym e))

-- ---- steps

module _ (image b : List ℕ) (x : Inputs) where
  pub no_task_lem : task_count ≤ x.task → stepped image b x ≡ refuse_step (answer_for None (Err (NoTask x.task))) b
  unfolding stepped
  no_task_lem h = rw (le-ltb x.task task_count h)

  pub bad_inputs_lem : x.task < task_count → (length x.levels ≡ inputs_length → ⊥)
      → stepped image b x ≡ refuse_step (answer_for None (Err (BadInputs (length x.levels)))) b
  unfolding stepped
  bad_inputs_lem h d = rw (lt-ltb x.task task_count h, ne_eqb (length x.levels) inputs_length d)

  pub of_buffer : x.task < task_count → length x.levels ≡ inputs_length → stepped image b x ≡ step_state image b x
  unfolding stepped
  of_buffer h e = rw (lt-ltb x.task task_count h, eq-eqb (length x.levels) inputs_length e)

  pub no_state_lem : is_state b ≡ false → step_state image b x ≡ refuse_step no_state_answer b
  unfolding step_state
  no_state_lem e = rw e

  pub of_state : is_state b ≡ true → step_state image b x ≡ handed (step image (decoded b) x)
  unfolding step_state
  of_state e = rw e

  -- by cases: no such task, inputs of another length, or both given
  pub asked : {P : Type 0} → (task_count ≤ x.task → P) → (x.task < task_count → (length x.levels ≡ inputs_length → ⊥) → P)
      → (x.task < task_count → length x.levels ≡ inputs_length → P) → P
  asked {P} no_such wrong right = by x.task task_count (λ l. go l (eqb (length x.levels) inputs_length) refl) no_such
    where
      go : x.task < task_count → (t : Bool) → eqb (length x.levels) inputs_length ≡ t → P
      go l true q = right l (eqb-true _ _ q)
      go l false q = wrong l (eqb-false _ _ q)

-- a refused step, as its two promises have it
pub step_refused : (s : Stepped) (r a : BiasAnswer) (b : List ℕ) → s ≡ refuse_step a b → r ≡ a → (r ≡ s.answer) × (b ≡ s.buffer)
step_refused s r a b e q = (q ∙ ap (λ (m : Stepped). m.answer) (sym e), ap (λ (m : Stepped). m.buffer) (sym e))

-- ---- 16

-- a buffer of another length holds no state
pub other_length : (b : List ℕ) → (length b ≡ state_length → ⊥) → is_state b ≡ false
unfolding is_state
other_length b d = rw (ne_eqb (length b) state_length d)

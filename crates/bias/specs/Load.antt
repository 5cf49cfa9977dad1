-- What `bias_load` answers and leaves of the lent state buffer (document 01, "Refused because of the input"): 13 first, then 16, then the image.
use Rattle.std.specs.Prelude.{ℕ, cond, List, eqb, ltb, length, Err}
use Rattle.limits.specs.Limits.{marks_length, state_length}
use Rattle.walk.specs.Verdict.{verdict_of, is_accepted}
use Rattle.walk.specs.Verdict.{Verdict}
use Rattle.walk.specs.declared.Refusal.TheVariants.{MarksShort}
use Rattle.state_layout.specs.Layout.{encoded}
use Rattle.machine.specs.Theorem.{loaded}
use Rattle.bias_results.specs.Results.{no_state, numbered, verdict_for}
use Rattle.bias_results.specs.declared.BiasVerdict.{BiasVerdict}

pub record Load : Type 0 where
  pub verdict : BiasVerdict
  pub buffer : List ℕ

-- refused: the buffer stays
abbrev pub refuse_load : BiasVerdict → List ℕ → Load
refuse_load v b = record { verdict = v; buffer = b }

-- by the verdict on the image: the bytes of the fresh state, or the buffer as it was
unfoldable pub judged_load : List ℕ → Verdict → List ℕ → Load
judged_load image v b = record { verdict = verdict_for v; buffer = cond (is_accepted v) (encoded (loaded image)) b }

-- an image, marks of n bytes, and the buffer b
unfoldable pub load : List ℕ → ℕ → List ℕ → Load
load image n b =
    cond (ltb n marks_length) (refuse_load (verdict_for (Err (MarksShort n))) b)
    (cond (eqb (length b) state_length) (judged_load image (verdict_of image n) b) (refuse_load (numbered no_state 0) b))

-- The theorem on buffers is not empty: the program of proved_cases/specs/Example.antt is loaded with 0 into every buffer of the length asked for, so it holds
-- of the steps there. Beside it 13 and 16, which no image brings about.
use Prim.Native.Nat.{ℕ, zero, suc, ◌-◌}
use native.Mathlib.Omega.{arith}
use mathlib.Core.Path.{◌≡◌, refl, ap, ◌∙◌}
use mathlib.Core.Bool.{Bool, true, ◌&&◌}
use mathlib.Core.List.{List, [], ◌∷◌}
use lib.Dec.{ltb}
use lib.ListN.{length}
use borrow.Author.Tests.{ltb-true}
use Rattle.limits.specs.Limits.{marks_length, state_length}
use Rattle.num_le.specs.LittleEndian.{Bytes}
use Rattle.logic.proofs.Choice.{both}
use Rattle.walk.specs.Verdict.{verdict_of, verdict_number}
use Rattle.bias_results.specs.Results.{numbered}
use Rattle.bias.specs.Load.{Load, load}
use Rattle.proved_demands.specs.Theorem.{Run}
use Rattle.bias.proofs.ByTest.{marks_short, no_buffer, of_image, verdict_is}
use Rattle.proved_demands.proofs.Runs.{every_run}
use Rattle.proved_cases.specs.Example.{program, steps}
use Rattle.proved_cases.proofs.Example.{accepted}

-- every byte of a list is below 256, as a test
abbrev below : List ℕ → Bool
below [] = true
below (b ∷ l) = ltb b 256 && below l

below_bytes : (l : List ℕ) → below l ≡ true → Bytes l
below_bytes [] e k = omega arith
below_bytes (b ∷ l) e zero = ltb-true b 256 (both (ltb b 256) (below l) e).0
below_bytes (b ∷ l) e (suc k) = below_bytes l (both (ltb b 256) (below l) e).1 k

bytes : Bytes program
bytes = below_bytes program refl

module _ (b : List ℕ) where
  module _ (e : length b ≡ state_length) where
    -- the program is loaded
    pub loads : (load program marks_length b).verdict.number ≡ 0
    loads =
        ap (λ (l : Load). l.verdict.number) (of_image program marks_length b (omega arith) e)
        ∙ ap (λ v. v.number) (verdict_is program (verdict_of program marks_length) b)
        ∙ ap verdict_number accepted

    -- the theorem, of its steps
    pub holds : Run program (load program marks_length b).buffer steps
    holds = every_run program marks_length b bytes loads steps

  -- 13: one byte of marks is missing
  pub marks_missing : (load program (marks_length - 1) b).verdict ≡ numbered 13 (marks_length - 1)
  marks_missing = ap (λ (l : Load). l.verdict) (marks_short program (marks_length - 1) b (omega arith))

  -- 16: the buffer has another length
  pub buffer_wrong : (length b ≡ state_length → ⊥) → (load program marks_length b).verdict ≡ numbered 16 0
  buffer_wrong d = ap (λ (l : Load). l.verdict) (no_buffer program marks_length b (omega arith) d)

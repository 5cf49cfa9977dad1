-- The array is made of zeros.
use Rattle.std.proofs.Common.{◌≡◌, ℕ, List, length, refl, sym, ap, ◌∙◌}
use Rattle.std.proofs.lemmas.List.{length-replicate}
use Rattle.text_verdict.specs.Input.{zeros}
use Rattle.images.proofs.text.Goals as goal

-- so many zeros, by their number alone
zeros_length : (xs : List ℕ) (n : ℕ) → xs ≡ zeros n → n ≡ length xs
unfolding zeros
zeros_length xs n e = sym (ap length e ∙ length-replicate n 0)

pub returns-clause-value : goal.returns-clause-value
unfolding zeros
returns-clause-value c = refl

pub returns-clause-len : goal.returns-clause-len
returns-clause-len c = zeros_length _ 524288 (returns-clause-value c)

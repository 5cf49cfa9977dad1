-- The array is made of zeros.
use Rattle.std.proofs.Common.{refl}
use Rattle.text_verdict.specs.Input.{zeros}
use Rattle.text_verdict.proofs.input.Goals as goal

pub returns-clause-value : goal.returns-clause-value
unfolding zeros
returns-clause-value c = refl

-- `is_loaded` meets its contract, test by test.
use mathlib.Core.Path.{sym, ap₂, ◌∙◌}
use Rattle.machine.proofs.Steps.Landings.{same_taken}
use mathlib.Core.Bool.{◌&&◌}
use Rattle.exec_step.proofs.is_loaded.Goals as goal

pub returns : goal.returns
returns c = ap₂ ◌&&◌ c.same.ensures (c.same_landings.ensures ∙ sym (same_taken _ _ _))

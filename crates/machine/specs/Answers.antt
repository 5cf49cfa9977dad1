-- What a step answers: done, or why not.
use Rattle.std.specs.Prelude.{Result}
use Rattle.machine.specs.declared.NotDone.{NotDone}

abbrev pub Answer : Type 0
Answer = Result (Unit {0}) NotDone

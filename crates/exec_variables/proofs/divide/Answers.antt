-- `divide` meets its contract, by what the quotient is.
use Rattle.std.proofs.Common.{sym, refl, ap, ◌∙◌, w32}
use Rattle.num_arith.proofs.Range.{got}
use Rattle.exec_action.specs.Action.{assigning, dividing}
use Rattle.exec_variables.proofs.divide.Goals as goal

pub assigns-requires : goal.assigns-requires
assigns-requires c = tt

pub halts-requires : goal.halts-requires
halts-requires c = tt

pub returns-in-Some : goal.returns-in-Some
returns-in-Some c = let a = c.args in
    c.assigns.ensures
    ∙ ap (assigning a.c) (got w32 c.in-Some.known_told-1-own.given.0.1 refl)
    ∙ ap (dividing a.c) (sym c.in-Some.is)

pub returns-in-None : goal.returns-in-None
returns-in-None c = let a = c.args in
    c.halts.ensures ∙ ap (dividing a.c) (sym c.in-None.is)

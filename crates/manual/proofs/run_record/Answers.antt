-- The count decides.
use Rattle.std.proofs.Common.{get_or, ap, ◌∙◌}
use Rattle.std.proofs.lemmas.Result.{IfOk-equal}
use borrow.Author.Tests.{eq-eqb, ne_eqb}
use Rattle.machine.specs.Inputs.{Inputs}
use Rattle.manual.specs.Run.{repeated, recorded}
use Rattle.manual.proofs.run_record.Goals as goal

pub returns-then-n-eq0 : goal.returns-then-n-eq0
unfolding recorded
returns-then-n-eq0 g c = c.put_byte.ensures ∙ rw (eq-eqb (get_or c.args.entry.now 0 0) 0 c.if-n-eq0.true)

pub returns : goal.returns
unfolding recorded
returns g c =
    let a = c.args in
    let n = get_or a.entry.now 0 0 in
    IfOk-equal c.repeat.result _ _ _ c.repeat.ensures
    (ap (λ (x : Inputs). repeated a.image.now x n a.state.now) c.inputs_at.ensures
    ∙ rw (ne_eqb n 0 c.if-n-eq0.false))

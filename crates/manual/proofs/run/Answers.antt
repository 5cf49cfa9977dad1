-- The load decides.
use Rattle.std.proofs.Common.{◌/◌, length, sym, ap, ◌∙◌}
use Rattle.std.proofs.lemmas.Result.{IfOk-equal}
use Rattle.bias_results.specs.declared.BiasVerdict.{BiasVerdict}
use Rattle.manual.specs.Run.{record_length, after}
use Rattle.manual.proofs.Ran.{refused, accepted, run_is}
use Rattle.manual.proofs.run.Goals as goal

pub returns-then-branch-ne0 : goal.returns-then-branch-ne0
returns-then-branch-ne0 g c =
    let a = c.args in
    let l = c.bias_load-v.ensures in
    let number = c.in_ok-show_load.ensures ∙ ap (λ (v : BiasVerdict). v.number) l.value in
    l.state_after ∙ refused a.image.now a.steps.now _ (λ i. c.if-branch-ne0.true (number ∙ i))
    ∙ run_is a.image.now a.steps.now _ a.state.now c.marks-marks.ensures.len

pub returns : goal.returns
returns g c =
    let a = c.args in
    let l = c.bias_load-v.ensures in
    let number = c.in_ok-show_load.ensures ∙ ap (λ (v : BiasVerdict). v.number) l.value in
    IfOk-equal c.run_records.result _ _ _ c.run_records.ensures
    (ap (after a.image.now a.steps.now (length a.steps.now / record_length)) l.state_after
    ∙ accepted a.image.now a.steps.now _ (sym number ∙ c.if-branch-ne0.false)
    ∙ run_is a.image.now a.steps.now _ a.state.now c.marks-marks.ensures.len)

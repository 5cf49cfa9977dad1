-- `ready_for` meets its contract, test by test.
use mathlib.Core.Path.{refl, sym, ap, ◌∙◌}
use Rattle.walk_flow.specs.Terms.{under}
use borrow.Author.Tests.{eq-eqb, ne_eqb}
use Rattle.machine.specs.declared.NotDone.TheVariants.{Differs}
use Rattle.walk_point.specs.declared.Point.{Point}
use Rattle.exec_step.specs.Readiness.{ready_for}
use Rattle.std.specs.Prelude.{Ok, Err}
use Rattle.exec_step.proofs.StepCases.{fits_is, not_loaded, command_here}
use Rattle.exec_step.proofs.ready_for.Goals as goal

pub returns-then-task-ne-RUNNING : goal.returns-then-task-ne-RUNNING
unfolding ready_for
returns-then-task-ne-RUNNING c = rw (ne_eqb _ _ c.if-task-ne-RUNNING.true)

pub returns-then-not-is_loaded-block_fits : goal.returns-then-not-is_loaded-block_fits
unfolding ready_for
returns-then-not-is_loaded-block_fits c =
    let a = c.args in
    let f = fits_is a.image.now a.header a.landings.now a.t a.task _ _ _ _ _ _ _ _ _ (sym c.in-Ok.ensures.value)
    c.in-Ok.ensures.landings_after c.part_of.ensures c.block_at-block.ensures c.decode-i.ensures c.point_of-p.ensures
    c.is_loaded.ensures c.block_fits.ensures c.wait_fits.ensures in
    ap (λ (p : Point). Err (Differs p)) c.point_of-p.ensures
    ∙ rw (eq-eqb _ _ c.if-task-ne-RUNNING.false, sym f ∙ c.if-not-is_loaded-block_fits.true)

pub returns-in-Err : goal.returns-in-Err
unfolding ready_for
returns-in-Err c =
    let a = c.args in
    ap (λ (p : Point). Err (Differs p)) c.point_of-p.ensures
    ∙ rw (eq-eqb _ _ c.if-task-ne-RUNNING.false, not_loaded a.image.now (under a.header a.landings.now) a.t a.task _ (sym c.in-Err.ensures.value)) refl

pub returns : goal.returns
unfolding ready_for
returns c =
    let a = c.args in
    let f = fits_is a.image.now a.header a.landings.now a.t a.task _ _ _ _ _ _ _ _ _ (sym c.in-Ok.ensures.value)
    c.in-Ok.ensures.landings_after c.part_of.ensures c.block_at-block.ensures c.decode-i.ensures c.point_of-p.ensures
    c.is_loaded.ensures c.block_fits.ensures c.wait_fits.ensures in
    ap Ok (command_here a.image.now a.task _ _ _ c.part_of.ensures c.block_at-block.ensures c.decode-i.ensures)
    ∙ rw (eq-eqb _ _ c.if-task-ne-RUNNING.false, sym f ∙ c.if-not-is_loaded-block_fits.false)

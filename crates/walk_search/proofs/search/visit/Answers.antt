-- `visit` meets its contract: it is the definition's visit, and stays within the marks.
use mathlib.Core.Path.{◌∙◌}
use native.Mathlib.Omega.{arith}
use Rattle.walk_search.specs.Program.{terms_of}
use Rattle.walk_search.proofs.ByHeader.{onward_by_header}
use Rattle.walk_search.proofs.Visits.{not_all, first_room, second_room, landing_room, visit_is}
use Rattle.walk_search.proofs.search.visit.Goals as goal

pub bounds-marks-entry : goal.bounds-marks-entry
bounds-marks-entry c =
    let g = c.requires.going in
    omega (arith, not_all _ _ c.args.program.now.bounds _ _ _ g c.requires.pending_nonzero, g.long, g.listed.few)

pub bounds-marks-entry-2 : goal.bounds-marks-entry-2
bounds-marks-entry-2 c =
    let g = c.requires.going in
    omega (arith, not_all _ _ c.args.program.now.bounds _ _ _ g c.requires.pending_nonzero, g.long, g.listed.few)

pub touch-n-requires : goal.touch-n-requires
touch-n-requires c =
    first_room _ _ c.args.program.now.bounds _ _ _ c.requires.going c.requires.pending_nonzero _ _ c.read_u16-p.ensures
    (c.onward_of-o.ensures ∙ onward_by_header (terms_of c.args.program.now) _ _ _ _)

pub touch-m-requires : goal.touch-m-requires
touch-m-requires c =
    second_room _ _ c.args.program.now.bounds _ _ _ c.requires.going c.requires.pending_nonzero _ _ c.read_u16-p.ensures
    (c.onward_of-o.ensures ∙ onward_by_header (terms_of c.args.program.now) _ _ _ _) _ c.touch-n.ensures

pub land-pending-requires : goal.land-pending-requires
land-pending-requires c =
    landing_room _ _ c.args.program.now.bounds _ _ _ c.requires.going c.requires.pending_nonzero _ _ c.read_u16-p.ensures
    (c.onward_of-o.ensures ∙ onward_by_header (terms_of c.args.program.now) _ _ _ _) _ _ c.touch-n.ensures c.touch-m.ensures

pub returns : goal.returns
returns c =
    visit_is _ _ _ _ _ _ _ _ _ _ _ _ _ c.read_u16-p.ensures
    (c.onward_of-o.ensures ∙ onward_by_header (terms_of c.args.program.now) _ _ _ _)
    c.touch-n.ensures c.touch-m.ensures c.land-pending.ensures.result_after c.land-pending.ensures.landed_after
    c.least_foreign.ensures c.least_bad.ensures

-- `verdict_by` meets its contract: what a command breaks at a point is the same by the header alone.
use mathlib.Core.Path.{refl}
use Rattle.walk_search.specs.Program.{terms_of}
use Rattle.walk_search.proofs.ByHeader.{fault_by_header}
use Rattle.walk_search.proofs.search.verdict_by.Goals as goal

pub returns-in-Ok : goal.returns-in-Ok
returns-in-Ok c =
    let p = c.args.program.now in
    rw (c.in_default.is, c.in-Some-bad.is, ← c.point_at-p.ensures, ← fault_by_header (terms_of p) p.blocks.now c.point_at-p.result, ← c.in-Ok.ensures) refl

pub returns-in-Err : goal.returns-in-Err
returns-in-Err c =
    let p = c.args.program.now in
    rw (c.in_default.is, c.in-Some-bad.is, ← c.point_at-p.ensures, ← fault_by_header (terms_of p) p.blocks.now c.point_at-p.result, ← c.in-Err.ensures) refl

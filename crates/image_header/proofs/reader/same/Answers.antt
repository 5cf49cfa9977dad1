-- `image_header::reader::same` meets its contract: `==` compares the same numbers.
use mathlib.Core.Path.{◌∙◌}
use lib.Dec.{eqb}
use Rattle.logic.specs.Each.{each_below}
use Rattle.image_header.specs.Rows.{same_header}
use Rattle.image_header.proofs.Each.{regroup}
use Rattle.image_header.proofs.reader.same.Goals as goal

pub returns : goal.returns
unfolding same_header each_below
returns c =
    let a = c.args.a in
    let b = c.args.b in
    c.eq.ensures
    ∙ regroup (eqb a.format b.format) (eqb a.drive.model b.drive.model) (eqb a.drive.b b.drive.b) (eqb a.drive.c b.drive.c) (eqb a.start b.start)
    (eqb a.count b.count) (eqb a.landings b.landings)

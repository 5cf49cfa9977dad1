-- The bytes decoded are all of the line's image, or more than the longest image has.
use Rattle.std.proofs.Common.{ap, ◌∙◌, arith}
use Rattle.limits.specs.Limits.{marks_length}
use Rattle.text_hex.proofs.Bytes.{front}
use Rattle.images.specs.Part.{part_of}
use Rattle.images.proofs.Enough.{enough, enough_blocks}
use Rattle.images.proofs.row.Goals as goal

pub returns-clause-verdict : goal.returns-clause-verdict
returns-clause-verdict g c =
    let d = c.decode-n in
    let room = c.input-image.ensures.len in
    let line = c.args.line.now in
    let judged = rw (d.ensures.out_after, front line d.result) at c.in_ok-judged.ensures.verdict in
    judged ∙ enough line _ d.result marks_length d.ensures.value (omega (arith, room))

pub returns-clause-blocks : goal.returns-clause-blocks
returns-clause-blocks g c =
    let d = c.decode-n in
    let room = c.input-image.ensures.len in
    let line = c.args.line.now in
    let blocks = rw (d.ensures.out_after, front line d.result) at c.blocks_of.ensures in
    c.in_ok-blocks.ensures ∙ blocks ∙ ap part_of (enough_blocks line _ d.result marks_length d.ensures.value (omega (arith, room)))

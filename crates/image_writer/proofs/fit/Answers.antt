-- `image_writer::fit` meets its contract: the refusal of the numbers comes first; blocks that fit the room are counted without overflow.
use mathlib.Core.Path.{sym, ap, ◌∙◌}
use native.Mathlib.Omega.{arith}
use lib.ListN.{get_or}
use Rattle.image_result.specs.ImageResult.{done}
use Rattle.image_header.specs.Scan.{first_refusal}
use Rattle.image_writer.specs.Writer.{room_result}
use Rattle.image_header.proofs.Read.{neither}
use Rattle.image_writer.proofs.Judged.{room_right}
use Rattle.image_writer.proofs.fit.Goals as goal

pub overflow_add-result : goal.overflow_add-result
overflow_add-result c =
    let o = c.first_refusal-result in
    let told = o.ensures ∙ ap (first_refusal c.args.s.result) c.judge_room.ensures in
    let d = c.is_ok in
    let s = c.args.s in
    let room = room_result s.at (get_or s.numbers 5 0) c.args.blocks c.args.room in
    let ok = sym (ap done told) ∙ sym d.ensures.value ∙ c.if-not-is_ok.false in
    let r = (room_right s.at (get_or s.numbers 5 0) c.args.blocks c.args.room (neither s.result room ok).1).1 in
    let h = c.ranges.room.fits in
    omega arith

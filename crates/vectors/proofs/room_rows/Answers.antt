-- The writer's definition computes at each length of the buffer.
use Rattle.std.proofs.Common.{refl, ap}
use Rattle.drive.specs.Types.{takes}
use Rattle.image_number.specs.Number.{number_bytes}
use Rattle.image_header.specs.Rows.{stands, header_checked, checked}
use Rattle.image_header.specs.Scan.{first_refusal, scan, more, taken, judged, stands_at}
use Rattle.image_writer.specs.Writer.{words_of, written, judged_for, landings_stand, judged_write, written_with, room_result}
use Rattle.image_writer.specs.declared.Written.{Written}
use Rattle.logic.proofs.Lists.{◌◂◌}
use Rattle.vectors.proofs.room_rows.Goals as goal

pub returns : goal.returns
unfolding words_of written judged_for landings_stand judged_write written_with room_result number_bytes scan more taken judged stands header_checked checked stands_at takes first_refusal
returns g c =
    ap (λ (w : Written). w.result) c.in_ok-refused.ensures.value
    ◂ ap (λ (w : Written). w.result) c.in_ok-accepted.ensures.value ◂ refl

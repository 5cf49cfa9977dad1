-- The writer's definition computes at each header and length.
use Rattle.std.proofs.Common.{refl}
use Rattle.drive.specs.Types.{takes}
use Rattle.image_number.specs.Number.{number_bytes}
use Rattle.image_header.specs.Rows.{stands, header_checked, checked}
use Rattle.image_header.specs.Scan.{first_refusal, scan, more, taken, judged, stands_at}
use Rattle.image_writer.specs.Writer.{words_of, written, judged_for, landings_stand, judged_write, written_with, room_result}
use Rattle.logic.proofs.Lists.{◌◂◌}
use Rattle.vectors.proofs.write_rows.Goals as goal

pub returns : goal.returns
unfolding words_of written judged_for landings_stand judged_write written_with room_result number_bytes scan more taken judged stands header_checked checked stands_at takes first_refusal
returns g c =
    c.in_ok-write_result.ensures ◂ c.in_ok-write_result-2.ensures ◂ c.in_ok-write_result-3.ensures ◂ c.in_ok-write_result-4.ensures ◂
    c.in_ok-write_result-5.ensures ◂ c.in_ok-write_result-6.ensures ◂ c.in_ok-write_result-7.ensures ◂ c.in_ok-write_result-8.ensures ◂ refl

-- The reader's definition computes at each image.
use Rattle.std.proofs.Common.{refl}
use Rattle.drive.specs.Types.{takes}
use Rattle.image_number.specs.Number.{number_at, first_byte, second_byte, number_bytes}
use Rattle.image_header.specs.Rows.{stands, header_checked, checked}
use Rattle.image_header.specs.Scan.{header_of, closed, read_with, first_refusal, length_result, scan, more, taken, judged, stands_at}
use Rattle.logic.proofs.Lists.{◌◂◌}
use Rattle.vectors.proofs.case_rows.Goals as goal

pub returns : goal.returns
unfolding header_of closed read_with length_result number_at first_byte second_byte scan more taken judged stands header_checked checked stands_at number_bytes takes first_refusal
returns g c =
    c.in_ok-header_result.ensures ◂ c.in_ok-header_result-2.ensures ◂ c.in_ok-header_result-3.ensures ◂ c.in_ok-header_result-4.ensures ◂
    c.in_ok-header_result-5.ensures ◂ c.in_ok-header_result-6.ensures ◂ refl

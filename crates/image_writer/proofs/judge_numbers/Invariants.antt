-- `image_writer::judge_numbers` meets its contract. The loop's invariant: the scan is that of the numbers passed.
use mathlib.Core.Path.{◌≡◌}
use mathlib.Core.List.{◌++◌}
use lib.ListN.{length}
use Rattle.limits.specs.Limits.{most_landings}
use Rattle.image_header.specs.Scan.{scan, beside}
use Rattle.image_writer.specs.Writer.{words_of, given_numbers}
use Rattle.image_writer.proofs.judge_numbers.Given as goal

abbrev pub invariant-loop-row : goal.invariant-loop-row
invariant-loop-row l =
    (beside l.s l.landings ≡ scan 0 (given_numbers (l.numbers ++ words_of l.bytes)) l.row) × (length l.landings ≡ most_landings)

-- `image_writer::put_numbers` meets its contract. The loop's invariant: the numbers passed stand at the front.
use mathlib.Core.Path.{◌≡◌}
use mathlib.Core.List.{◌++◌}
use lib.ListN.{length}
use lib.Seq.{sets}
use Rattle.image_writer.specs.Writer.{words_of, first_numbers}
use Rattle.image_writer.proofs.put_numbers.Given as goal

abbrev pub invariant-loop-row : goal.invariant-loop-row
invariant-loop-row l =
    (l.at ≡ length (first_numbers (l.numbers ++ words_of l.landings) l.row)) × (l.out ≡ sets l.initial.out 0 (first_numbers (l.numbers ++ words_of l.landings) l.row))

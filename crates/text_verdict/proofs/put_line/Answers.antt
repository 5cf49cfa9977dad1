-- The line's words and numbers are put one behind the other.
use Rattle.std.proofs.Common.{ap, arith}
use Rattle.text.specs.Text.{labelled}
use Rattle.text.proofs.Joined.{and_then, same_word}
use Rattle.text_verdict.specs.Line.{refusal_word, place_word, task_word, depth_word, line_of}
use Rattle.text_verdict.proofs.Line.{line_length}
use Rattle.text_verdict.proofs.put_line.Goals as goal

pub returns-clause-put : goal.returns-clause-put
unfolding line_of
returns-clause-put c =
    and_then
    (and_then
    (and_then
    (and_then
    (same_word (ap (labelled refusal_word) c.number-number.ensures) c.put_labelled-end.ensures)
    (same_word (ap (labelled place_word) c.place-place.ensures) c.put_labelled-end-2.ensures))
    (same_word (ap (labelled task_word) c.task-task.ensures) c.put_labelled-end-3.ensures))
    (same_word (ap (labelled depth_word) c.depth-depth.ensures) c.put_labelled-end-4.ensures))
    c.put.ensures

pub returns-clause-fits : goal.returns-clause-fits
returns-clause-fits c = line_length c.args.v (omega arith) (omega arith) (omega arith) (omega arith)

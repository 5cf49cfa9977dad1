-- `state_encode::put_task` meets its contract: one number put behind the other.
use native.Mathlib.Omega.{arith}
use Rattle.state_sections.proofs.Sections.{put, done, put_first, chained_first}
use Rattle.state_layout.proofs.Codecs.{words_put, parts_long}
use Rattle.state_encode.proofs.put_task.Goals as goal

pub returns : goal.returns
returns c =
    chained_first
    (put_first c.put_byte.ensures
    (put c.put_byte-2.ensures
    (put c.put_word.ensures
    (put (words_put _ _ _ _ _ c.put_words.ensures.b_after (omega arith))
    (put c.put_long.ensures
    (put c.put_long-2.ensures
    done))))))
    (parts_long c.args.task)

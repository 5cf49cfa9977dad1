-- Nothing is put where the buffer is full, else so much of the word as there is room for.
use Rattle.std.proofs.Common.{◌≡◌, ◌+◌, ◌-◌, arith}
use Rattle.text.proofs.Joined.{full, copied_front}
use Rattle.text.proofs.put.Goals as goal

pub returns-then-out-at : goal.returns-then-out-at
returns-then-out-at c = full c.args.out.now c.args.at c.args.word.now (omega arith)

pub returns : goal.returns
returns c =
    let a = c.args.at in
    let n = c.min-n.result in
    let long : a + n - a ≡ n = omega arith in
    rw long (copied_front c.args.out.now c.args.word.now c.copy_from_slice.new.self a n (omega arith) c.min-n.ensures c.copy_from_slice.ensures.after)

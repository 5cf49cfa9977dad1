-- The rest of the line, or nothing at its end.
use Rattle.std.proofs.Common.{◌+◌, ◌-◌, ◌≤◌, length, drop, length-drop, take_all, drop_of_length-le, sym, arith}
use Rattle.manual.specs.Run.{behind}
use Rattle.manual.proofs.behind.Goals as goal

pub returns-then-k-line : goal.returns-then-k-line
unfolding behind
returns-then-k-line c =
    let a = c.args in
    let l : length (drop (a.k + 1) a.line.now) ≤ length a.line.now - (a.k + 1) = omega (arith, length-drop (a.k + 1) a.line.now) in
    take_all _ (drop (a.k + 1) a.line.now) l

pub returns : goal.returns
unfolding behind
returns c =
    let a = c.args in
    let l : length a.line.now ≤ a.k + 1 = omega arith in
    sym (drop_of_length-le a.line.now l)

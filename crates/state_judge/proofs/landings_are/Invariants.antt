-- `landings_are` meets its contract: after i turns the first i entries are judged.
use Rattle.state_judge.proofs.Landings.{Judged}
use Rattle.state_judge.proofs.landings_are.Given as goal

abbrev pub invariant-loop-i : goal.invariant-loop-i
invariant-loop-i l = Judged l.b l.header l.pass l.before l.i

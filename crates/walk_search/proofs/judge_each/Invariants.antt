-- The blocks from here on decide.
use Rattle.std.proofs.Common.{◌≡◌, ◌-◌}
use Rattle.walk_search.specs.Search.{each_verdict}
use Rattle.walk_search.proofs.judge_each.Given as goal

abbrev pub invariant-loop-b : goal.invariant-loop-b
invariant-loop-b l = each_verdict l.header l.blocks 0 l.header.count ≡ each_verdict l.header l.blocks l.b (l.header.count - l.b)

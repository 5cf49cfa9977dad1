-- `touch` meets its contract: no depth adds nothing; the rest follows its tests.
use Rattle.walk_search.proofs.Touches.{touch_none}
use Rattle.walk_search.proofs.search.touch.Goals as goal

pub returns-then-s-eq0 : goal.returns-then-s-eq0
returns-then-s-eq0 c = touch_none _ _ _ _ c.if-s-eq0.true

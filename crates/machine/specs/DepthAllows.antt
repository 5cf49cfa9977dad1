-- What an outcome needs of a task's depth: room for a call, and something to return to.
use Rattle.std.specs.Prelude.{ℕ, ◌<◌, ◌≤◌}
use Rattle.limits.specs.Limits.{most_depth}
use Rattle.machine.specs.declared.Outcome.{Outcome}
use Rattle.machine.specs.declared.Outcome.TheVariants.{GoOn, Stay, Jump, Call, Return, Start, Restart, End, Halt}

abbrev pub DepthAllows : ℕ → Outcome → Type 0
DepthAllows depth (Call a) = depth < most_depth
DepthAllows depth Return = (0 < depth) × (depth ≤ most_depth)
DepthAllows depth GoOn = Unit {0}
DepthAllows depth (Stay time turns) = Unit {0}
DepthAllows depth (Jump a) = Unit {0}
DepthAllows depth (Start u a) = Unit {0}
DepthAllows depth Restart = Unit {0}
DepthAllows depth End = Unit {0}
DepthAllows depth (Halt q) = Unit {0}

-- What a command breaks at a point (document 01: place) of a walk: 7 for a 51 that ends another task, then 9, 10, 11, 12 (document 01, "Refused
-- because of the input").
use Rattle.std.specs.Prelude.{ℕ, Bool, false, ◌||◌, cond, List, [], ◌∷◌, eqb, leb, Ok, Err}
use Rattle.limits.specs.Limits.{most_depth}
use Rattle.command_operands.specs.declared.Command.{Command}
use Rattle.walk_flow.specs.Terms.{Terms}
use Rattle.walk_flow.specs.Flow.{flow_of, continues}
use Rattle.walk_flow.specs.Permission.{foreign, permitted}
use Rattle.walk_point.specs.declared.Point.{Point}
use Rattle.walk_flow.specs.declared.Flow.{Flow}
use Rattle.walk_flow.specs.declared.Flow.TheVariants.{Next, Wait, Jump, Branch, Call, Return, Start, Restart, End, ComputedJump, ComputedStart}
use Rattle.walk_fault.specs.Fault.{FaultResult}
use Rattle.walk_fault.specs.declared.Fault.TheVariants.{Foreign, Forbidden, TooDeep, NoCall, PastEnd}

-- a point of a walk
abbrev pub point : ℕ → ℕ → ℕ → Point
point task block depth = record { task = task; block = block; depth = depth }

-- 10: a call at the greatest depth
abbrev pub too_deep : Flow → ℕ → Bool
too_deep (Call a) depth = leb most_depth depth
too_deep Next depth = false
too_deep Wait depth = false
too_deep (Jump a) depth = false
too_deep (Branch a) depth = false
too_deep Return depth = false
too_deep (Start u a) depth = false
too_deep Restart depth = false
too_deep End depth = false
too_deep ComputedJump depth = false
too_deep (ComputedStart u) depth = false

-- 11: a return at depth 0
abbrev pub no_call : Flow → ℕ → Bool
no_call Return depth = eqb depth 0
no_call Next depth = false
no_call Wait depth = false
no_call (Jump a) depth = false
no_call (Branch a) depth = false
no_call (Call a) depth = false
no_call (Start u a) depth = false
no_call Restart depth = false
no_call End depth = false
no_call ComputedJump depth = false
no_call (ComputedStart u) depth = false

-- 12: one of the blocks that it may go on with is not below the count
abbrev pub any_past : ℕ → List ℕ → Bool
any_past count [] = false
any_past count (b ∷ bs) = leb count b || any_past count bs

-- 10, 11 and 12 of a flow
unfoldable pub flow_fault : ℕ → Point → Flow → FaultResult
flow_fault count p f =
    cond (too_deep f p.depth) (Err TooDeep)
    (cond (no_call f p.depth) (Err NoCall)
    (cond (any_past count (continues p.task p.block f)) (Err PastEnd) (Ok tt)))

-- the first that the command c breaks at a point
unfoldable pub fault_of : Terms → Command → Point → FaultResult
fault_of terms c p =
    cond (foreign p.task c) (Err Foreign)
    (cond (permitted terms c.code p.task) (flow_fault terms.header.count p (flow_of terms c)) (Err Forbidden))

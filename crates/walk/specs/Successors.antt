-- The points that follow a point, as the loader computes them from the flow of its command. Stays and returns to a start are left out, as they add
-- no point: a start follows already the command that named it, or is the first point (proofs/Steps/History.antt).
use Rattle.std.specs.Prelude.{ℕ, ◌+◌, ◌<◌, ◌≤◌, cond, List, [], ◌∷◌, eqb, length, Ok, Err}
use Rattle.limits.specs.Limits.{most_blocks, most_landings}
use Rattle.walk_flow.specs.Terms.{Terms}
use Rattle.walk_flow.specs.Flow.{flow_of}
use Rattle.walk_point.specs.PointFault.{point}
use Rattle.walk_point.specs.declared.Point.{Point}
use Rattle.walk_flow.specs.declared.Flow.{Flow}
use Rattle.walk_flow.specs.declared.Flow.TheVariants.{Next, Wait, Jump, Branch, Call, Return, Start, Restart, End, ComputedJump, ComputedStart}
use Rattle.walk_fault.specs.Fault.{FaultResult}
use Rattle.walk_fault.specs.declared.Fault.TheVariants.{Foreign, Forbidden, TooDeep, NoCall, PastEnd}
use Rattle.walk.specs.Blocks.{command_at, fault_at}
use Rattle.walk.specs.Index.{index_of, point_at}
use Rattle.walk.specs.Graph.{In}

-- the next block of the task, at the same depth
abbrev pub beyond : Point → Point
beyond p = point p.task (p.block + 1) p.depth

-- a task at each of these blocks, at this depth
abbrev pub each_at : ℕ → ℕ → List ℕ → List Point
each_at task depth [] = []
each_at task depth (a ∷ blocks) = point task a depth ∷ each_at task depth blocks

-- the points that a flow leads to, where these are the landing blocks: at the block that it names, then at the next block, then at the landing blocks
abbrev pub leads_to : List ℕ → Point → Flow → List Point
leads_to landings p Next = beyond p ∷ []
leads_to landings p Wait = beyond p ∷ []
leads_to landings p (Jump a) = point p.task a p.depth ∷ []
leads_to landings p (Branch a) = point p.task a p.depth ∷ beyond p ∷ []
leads_to landings p (Call a) = point p.task a (p.depth + 1) ∷ beyond p ∷ []
leads_to landings p Return = []
leads_to landings p (Start u a) = cond (eqb u p.task) (point u a 0 ∷ []) (point u a 0 ∷ beyond p ∷ [])
leads_to landings p Restart = []
leads_to landings p End = []
leads_to landings p ComputedJump = each_at p.task p.depth landings
leads_to landings p (ComputedStart u) = cond (eqb u p.task) (each_at u 0 landings) (beyond p ∷ each_at u 0 landings)

-- a command that breaks something continues with nothing
abbrev pub unless : FaultResult → Flow → Flow
unless (Ok _) f = f
unless (Err Foreign) f = End
unless (Err Forbidden) f = End
unless (Err TooDeep) f = End
unless (Err NoCall) f = End
unless (Err PastEnd) f = End

-- what the command at a point continues with there
unfoldable pub flow_at : Terms → List ℕ → Point → Flow
flow_at terms bs p = unless (fault_at terms bs p) (flow_of terms (command_at bs p.block))

unfoldable pub successors : Terms → List ℕ → Point → List Point
successors terms bs p = leads_to terms.landings p (flow_at terms bs p)

unfoldable pub indices : List Point → List ℕ
indices [] = []
indices (p ∷ ps) = index_of p ∷ indices ps

-- by number
unfoldable pub next_of : Terms → List ℕ → ℕ → List ℕ
next_of terms bs i = indices (successors terms bs (point_at i))

-- terms under which walks stay within the marks: what the header's own refusals, 3 and 21, leave
pub record WalkBounds (terms : Terms) : Type 0 where
  pub most : terms.header.count ≤ most_blocks
  pub begins : terms.header.start < terms.header.count
  pub few : length terms.landings ≤ most_landings
  pub below : (a : ℕ) → In a terms.landings → a < terms.header.count

-- Which outcomes a flow allows: what a command's flow says that it may continue with, and what the command's effect comes to. That every effect's
-- outcome is in its flow is a law (proofs/Rows/EveryLaw.antt).
use Rattle.std.specs.Prelude.{ℕ, List}
use Rattle.walk.specs.Graph.{In}
use Rattle.walk_flow.specs.declared.Flow.{Flow}
use Rattle.walk_flow.specs.declared.Flow.TheVariants as flow
use Rattle.machine.specs.declared.Cause.{Cause}
use Rattle.machine.specs.declared.Outcome.{Outcome}
use Rattle.machine.specs.declared.Outcome.TheVariants.{GoOn, Stay, Jump, Call, Return, Start, Restart, End, Halt}

-- where these are the landing blocks
pub data Allows (landings : List ℕ) : Flow → Outcome → Type 0 where
  -- on, or a halt
  on : Allows landings flow.Next GoOn
  halt : {q : Cause} → Allows landings flow.Next (Halt q)
  -- the same, or staying
  over : Allows landings flow.Wait GoOn
  stay : {time turns : ℕ} → Allows landings flow.Wait (Stay time turns)
  refuse : {q : Cause} → Allows landings flow.Wait (Halt q)
  -- to the named block
  jump : {a : ℕ} → Allows landings (flow.Jump a) (Jump a)
  -- there, or on
  branch : {a : ℕ} → Allows landings (flow.Branch a) (Jump a)
  pass : {a : ℕ} → Allows landings (flow.Branch a) GoOn
  call : {a : ℕ} → Allows landings (flow.Call a) (Call a)
  return : Allows landings flow.Return Return
  start : {u a : ℕ} → Allows landings (flow.Start u a) (Start u a)
  restart : Allows landings flow.Restart Restart
  end : Allows landings flow.End End
  -- to any landing block, or a halt
  land : {a : ℕ} → In a landings → Allows landings flow.ComputedJump (Jump a)
  astray : {q : Cause} → Allows landings flow.ComputedJump (Halt q)
  -- a task starts at any landing block, or a halt
  begin : {u a : ℕ} → In a landings → Allows landings (flow.ComputedStart u) (Start u a)
  unbegun : {u : ℕ} {q : Cause} → Allows landings (flow.ComputedStart u) (Halt q)

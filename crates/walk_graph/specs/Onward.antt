-- What the command at a pair, a task at a block, breaks at some depths, and to which pairs it hands the other depths on. A call hands them on one deeper;
-- what a command breaks depends on the depth only where a call is at the greatest and a return at 0. That the points handed on are those that follow, and the
-- depths broken those of the bad points, is proved in proofs/Handing.antt.
use Rattle.std.specs.Prelude.{ℕ, ◌+◌, ◌-◌, ◌*◌, ◌/◌, ◌%◌, Bool, true, false, cond, List, eqb}
use Rattle.limits.specs.Limits.{task_count}
use Rattle.command_operands.specs.declared.Command.{Command}
use Rattle.walk_flow.specs.Terms.{Terms}
use Rattle.walk_flow.specs.Flow.{flow_of, continues}
use Rattle.walk_flow.specs.Permission.{foreign, permitted}
use Rattle.walk_flow.specs.declared.Flow.{Flow}
use Rattle.walk_flow.specs.declared.Flow.TheVariants.{Next, Wait, Jump, Branch, Call, Return, Start, Restart, End, ComputedJump, ComputedStart}
use Rattle.walk_point.specs.PointFault.{any_past}
use Rattle.walk.specs.Blocks.{command_at}
use Rattle.walk_graph.specs.Depths.{deepest, ground, deeper}
use Rattle.walk_graph.specs.declared.Onward.{Onward}

-- the pairs by number: block, then task
abbrev pub pair_of : ℕ → ℕ → ℕ
pair_of task block = block * task_count + task

abbrev pub task_of : ℕ → ℕ
task_of p = p % task_count

abbrev pub block_of : ℕ → ℕ
block_of p = p / task_count

-- a 51 that ends another task hands nothing on
abbrev pub onward_foreign : Onward
onward_foreign = record { foreign = true; bad = 0; named = 0; into = 0; behind = 0; lander = 0; landing = 0 }

-- bad depths, a named pair with those handed to it, and those handed to the block behind
abbrev pub onward_to : ℕ → ℕ → ℕ → ℕ → Onward
onward_to bad named into behind = record { foreign = false; bad = bad; named = named; into = into; behind = behind; lander = 0; landing = 0 }

-- bad depths, those handed to the block behind, and a task with those handed to it at every landing block
abbrev pub onward_landing : ℕ → ℕ → ℕ → ℕ → Onward
onward_landing bad behind lander landing =
    record { foreign = false; bad = bad; named = 0; into = 0; behind = behind; lander = lander; landing = landing }

-- nothing is handed on
abbrev pub onward_none : ℕ → Onward
onward_none bad = onward_to bad 0 0 0

-- the depths of s at which a flow breaks 10 or 11
abbrev pub broken_by : Flow → ℕ → ℕ
broken_by (Call a) s = s / deepest * deepest
broken_by Return s = s % 2
broken_by Next s = 0
broken_by Wait s = 0
broken_by (Jump a) s = 0
broken_by (Branch a) s = 0
broken_by (Start u a) s = 0
broken_by Restart s = 0
broken_by End s = 0
broken_by ComputedJump s = 0
broken_by (ComputedStart u) s = 0

-- the depths of s at which a flow breaks 10, 11 or 12: all of them where it may go past the end
abbrev pub broken : Bool → Flow → ℕ → ℕ
broken past f s = cond past s (broken_by f s)

-- where a flow hands the depths s of a task on: to the block that it names, to the block behind, and to every landing block
abbrev pub handed_on : ℕ → Flow → ℕ → ℕ → Onward
handed_on task Next bad s = onward_to bad 0 0 s
handed_on task Wait bad s = onward_to bad 0 0 s
handed_on task (Jump a) bad s = onward_to bad (pair_of task a) s 0
handed_on task (Branch a) bad s = onward_to bad (pair_of task a) s s
handed_on task (Call a) bad s = onward_to bad (pair_of task a) (deeper s) s
handed_on task Return bad s = onward_none bad
handed_on task (Start u a) bad s = onward_to bad (pair_of u a) (ground s) (cond (eqb u task) 0 s)
handed_on task Restart bad s = onward_none bad
handed_on task End bad s = onward_none bad
handed_on task ComputedJump bad s = onward_landing bad 0 task s
handed_on task (ComputedStart u) bad s = onward_landing bad (cond (eqb u task) 0 s) u (ground s)

-- of a flow at a block of a task, in an image of this many blocks
unfoldable pub flow_onward : ℕ → ℕ → ℕ → Flow → ℕ → Onward
flow_onward count task block f s =
    handed_on task f (broken (any_past count (continues task block f)) f s) (s - broken (any_past count (continues task block f)) f s)

-- of a command
unfoldable pub command_onward : Terms → Command → ℕ → ℕ → ℕ → Onward
command_onward terms c task block s =
    cond (foreign task c) onward_foreign
    (cond (permitted terms c.code task) (flow_onward terms.header.count task block (flow_of terms c) s) (onward_none s))

-- of the command at a block
unfoldable pub onward_of : Terms → List ℕ → ℕ → ℕ → ℕ → Onward
onward_of terms bs task block s = command_onward terms (command_at bs block) task block s

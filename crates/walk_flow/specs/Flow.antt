-- What a command may continue with, by the flow of its code's row (document 01, "Walks", and the command's page in 000).
use Rattle.std.specs.Prelude.{ℕ, ◌+◌, cond, List, [], ◌∷◌, eqb}
use Rattle.limits.specs.Limits.{bias, plc, mathematics}
use Rattle.command_table.specs.Rows.{row_of}
use Rattle.command_table.specs.declared.FlowKind.{FlowKind}
use Rattle.command_table.specs.declared.FlowKind.TheVariants as kind
use Rattle.command_operands.specs.declared.Command.{Command}
use Rattle.walk_flow.specs.Terms.{Terms}
use Rattle.walk_flow.specs.declared.Flow.{Flow}
use Rattle.walk_flow.specs.declared.Flow.TheVariants.{Next, Wait, Jump, Branch, Call, Return, Start, Restart, End, ComputedJump, ComputedStart}

-- 51, by its mode
abbrev pub ending_by : ℕ → Flow
ending_by mode = cond (eqb mode 0) Restart End

-- with the operands x and word; a code that is not carried continues with nothing
abbrev pub flow_by : FlowKind → ℕ → ℕ → Flow
flow_by kind.Nothing x word = End
flow_by kind.Next x word = Next
flow_by kind.Wait x word = Wait
flow_by kind.Jump x word = Jump word
flow_by kind.Branch x word = Branch word
flow_by kind.Call x word = Call word
flow_by kind.Return x word = Return
flow_by kind.StartBias x word = Start bias word
flow_by kind.StartPlc x word = Start plc word
flow_by kind.StartMathematics x word = Start mathematics word
flow_by kind.Ending x word = ending_by x
flow_by kind.ComputedJump x word = ComputedJump
flow_by kind.ComputedStartBias x word = ComputedStart bias

unfoldable pub flow_of : Terms → Command → Flow
flow_of terms c = flow_by (row_of c.code).flow c.x c.word

-- The blocks that a command at block b of a task may continue with, each of which 12 judges. The block behind a call counts at the call, a start block where it
-- is named. A landing block is not among them: 21 has judged it already. Starting its own task, a command has nothing behind it: it goes on at the named block
-- alone. (By the boxes no command may do that today.)
abbrev pub continues : ℕ → ℕ → Flow → List ℕ
continues task b Next = (b + 1) ∷ []
continues task b Wait = (b + 1) ∷ b ∷ []
continues task b (Jump a) = a ∷ []
continues task b (Branch a) = a ∷ (b + 1) ∷ []
continues task b (Call a) = a ∷ (b + 1) ∷ []
continues task b Return = []
continues task b (Start u a) = cond (eqb u task) (a ∷ []) (a ∷ (b + 1) ∷ [])
continues task b Restart = []
continues task b End = []
continues task b ComputedJump = []
continues task b (ComputedStart u) = cond (eqb u task) [] ((b + 1) ∷ [])

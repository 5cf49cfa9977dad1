-- What holds at every step of a run, by itself (demand 3, parts 4 to 6, 8 and 9 in docs/PROMISES.md): a return goes behind its task's own latest open call, a
-- task stops only itself and for a named reason, no step moves another task but by 54, 57, 90 and 5B, and a 58 goes on exactly when the ramp has ended, the
-- position is in the window and no move came right before; and a 56 or a 5B lands where its variable says.
use Rattle.std.specs.Prelude.{ℕ, ◌+◌, ◌<◌, ◌≡◌, Bool, true, false, ◌&&◌, ◌||◌, not, cond, ◌⊎◌, List, [], ◌∷◌, eqb, ℤ, pos, Option, Some, None, Ok, Err}
use Rattle.limits.specs.Limits.{bias, plc, mathematics, task_count, most_speed, most_ramp, most_time}
use Rattle.image_header.specs.Scan.{blocks_of}
use Rattle.command_operands.specs.declared.Command.{Command}
use Rattle.walk.specs.Blocks.{command_at}
use Rattle.walk.specs.Graph.{In}
use Rattle.walk.specs.Walk.{starts_anew}
use Rattle.state.specs.State.{runs, ended, halted, task_at}
use Rattle.state.specs.declared.Task.{Task}
use Rattle.state.specs.declared.Values.{Values}
use Rattle.state.specs.declared.State.{State}
use Rattle.machine.specs.Inputs.{Inputs, level}
use Rattle.machine.specs.Effect.{variable, within, is_set}
use Rattle.machine.specs.Engine.{step, point_of, stopped, terms_held}
use Rattle.machine.specs.declared.Cause.{Cause}
use Rattle.machine.specs.declared.Cause.TheVariants.{ZeroDivisor, BadContent, NoLanding}
use Rattle.machine.specs.declared.Request.{Request}
use Rattle.machine.specs.declared.Request.TheVariants.{MoveTo, MoveBy, Forward, Backward, Stop}
use Rattle.machine.specs.Answers.{Answer}
use Rattle.machine.specs.declared.NotDone.TheVariants.{NoTask, Inputs as BadInputs, NotRunning, Differs, Halted}

-- the command at the block where a step's task stands
abbrev pub command_of : List ℕ → State → Inputs → Command
command_of image s x = command_at (blocks_of image) (task_at s x.task).block

-- the command was executed: the step was neither refused nor did it halt its task
abbrev pub executed : Answer → Bool
executed (Ok _) = true
executed (Err (NoTask t)) = false
executed (Err (BadInputs n)) = false
executed (Err NotRunning) = false
executed (Err (Differs p)) = false
executed (Err (Halted q p)) = false

-- ---- part 4: returns

-- the open calls of each task, by its number: the blocks of its 52s that no 53 has come back from, the latest first
abbrev pub Calls : Type 0
Calls = ℕ → List ℕ

abbrev pub no_calls : Calls
no_calls t = []

abbrev pub with_calls : ℕ → List ℕ → Calls → Calls
with_calls t l calls u = cond (eqb u t) l (calls u)

abbrev pub without_latest : List ℕ → List ℕ
without_latest [] = []
without_latest (b ∷ bs) = bs

-- as a command counts that task t executed at block b: 52 opens a call, 53 takes the latest off, 54, 57, 90 and 5B leave the task that they start
-- without any, and so does a return to start (51, mode 0) its own
unfoldable pub counts : Command → ℕ → ℕ → Calls → Calls
counts c t b calls =
    cond (eqb c.code 0x52) (with_calls t (b ∷ calls t) calls)
    (cond (eqb c.code 0x53) (with_calls t (without_latest (calls t)) calls)
    (cond (eqb c.code 0x54) (with_calls plc [] calls)
    (cond (eqb c.code 0x57) (with_calls bias [] calls)
    (cond (eqb c.code 0x90) (with_calls mathematics [] calls)
    (cond (eqb c.code 0x5B) (with_calls bias [] calls)
    (cond (eqb c.code 0x51 && eqb c.x 0) (with_calls t [] calls) calls))))))

-- after a step
unfoldable pub calls_after : List ℕ → State → Inputs → Calls → Calls
calls_after image s x calls =
    cond (executed (step image s x).answer) (counts (command_of image s x) x.task (task_at s x.task).block calls) calls

-- a block is the one behind the latest call
pub data Behind : List ℕ → ℕ → Type 0 where
  -- the latest stands first
  latest : {b : ℕ} {bs : List ℕ} → Behind (b ∷ bs) (b + 1)

-- ---- part 5: why a task stops

-- what a halt leaves of the values: a BIAS step has noted the start level, and the note of a move is as it was (change request 4)
abbrev pub level_noted : ℕ → ℕ → Values → Values
level_noted t start v = record {
  cells = v.cells;
  motion = v.motion;
  notes = record { level = cond (eqb t bias) (level start) v.notes.level; moved = v.notes.moved };
}

-- a variable's content is the number of none of these landing blocks
abbrev pub NoLandingBlock : List ℕ → ℤ → Type 0
NoLandingBlock landings z = (a : ℕ) → In a landings → z ≡ pos a → ⊥

-- 19, 20 or 22, of a command c that a task executes with a wait of `time` pending (0: none), where these are the landing blocks
pub data Reason (landings : List ℕ) (c : Command) (v : Values) (time : ℕ) : Cause → Type 0 where
  -- 8D, and the divisor variable holds 0
  divisor : c.code ≡ 0x8D → variable v c.z ≡ pos 0 → Reason landings c v time ZeroDivisor
  -- 31 to 33, and the variable is out of the parameter's range
  speed : c.code ≡ 0x31 → within 1 most_speed (variable v c.x) ≡ false → Reason landings c v time BadContent
  acceleration : c.code ≡ 0x32 → within 1 most_ramp (variable v c.x) ≡ false → Reason landings c v time BadContent
  deceleration : c.code ≡ 0x33 → within 1 most_ramp (variable v c.x) ≡ false → Reason landings c v time BadContent
  -- 5A at its first step, and the variable is out of the range of times
  waiting : c.code ≡ 0x5A → time ≡ 0 → within 0 most_time (variable v c.x) ≡ false → Reason landings c v time BadContent
  -- 56 and 5B, and the variable holds no landing block
  jumping : c.code ≡ 0x56 → NoLandingBlock landings (variable v c.x) → Reason landings c v time NoLanding
  starting : c.code ≡ 0x5B → NoLandingBlock landings (variable v c.x) → Reason landings c v time NoLanding

-- the step's task stopped, and why
pub data Stopped (image : List ℕ) (s : State) (x : Inputs) : Type 0 where
  -- it halted by 19, 20 or 22 at its point, keeping block, start and call stack; no value changed but BIAS's noted start level, the note of a move is as it
  -- was, and no motion is asked for
  by_refusal : (q : Cause) → Reason (terms_held s).landings (command_of image s x) s.values (task_at s x.task).time q
      → (step image s x).answer ≡ Err (Halted q (point_of x.task (task_at s x.task)))
      → (step image s x).state.values ≡ level_noted x.task x.start s.values
      → task_at (step image s x).state x.task ≡ stopped halted (task_at s x.task) → (step image s x).request ≡ None → Stopped image s x
  -- it ended by a 51 of its own mode, keeping the same
  by_itself : (command_of image s x).code ≡ 0x51 → (command_of image s x).x ≡ x.task + 1 → (step image s x).answer ≡ Ok tt
      → task_at (step image s x).state x.task ≡ stopped ended (task_at s x.task) → Stopped image s x

-- ---- part 8: the wait for the position (change request 4)

-- the codes of moves: to a position, by a distance, endless forward and backward
abbrev pub is_move_code : ℕ → Bool
is_move_code code = eqb code 0x00 || (eqb code 0x01 || (eqb code 0x03 || eqb code 0x04))

-- something is asked of the axis
abbrev pub asks_motion : Option Request → Bool
asks_motion None = false
asks_motion (Some (MoveTo axis)) = true
asks_motion (Some (MoveBy axis)) = true
asks_motion (Some (Forward axis)) = true
asks_motion (Some (Backward axis)) = true
asks_motion (Some (Stop mode d)) = true

-- after a step: whether the latest step of BIAS that was executed, and so was neither refused nor halted its task, was a move that was carried out
abbrev pub moved_last : List ℕ → State → Inputs → Bool → Bool
moved_last image s x before =
    cond (eqb x.task bias && executed (step image s x).answer) (is_move_code (command_of image s x).code && asks_motion (step image s x).request) before

-- the wait of a 58 is over: the ramp has ended, the position is in the window, and the step that `moved` tells of was no move
abbrev pub wait_over : Inputs → Bool → Bool
wait_over x moved = is_set x.ramp_ended && (is_set x.in_window && not moved)

-- ---- part 9: computed jumps (change request 1)

-- a block is the landing block whose number this content is
pub record LandsAt (landings : List ℕ) (z : ℤ) (block : ℕ) : Type 0 where
  pub listed : In block landings
  pub holds : z ≡ pos block

-- a task that began anew at a block: it runs, inside no call, with no wait, and starts at `first`
pub record Anew (first block : ℕ) (task : Task) : Type 0 where
  pub running : task.status ≡ runs
  pub at : task.block ≡ block
  pub outside : task.depth ≡ 0
  pub time : task.time ≡ 0
  pub turns : task.turns ≡ 0
  pub start : task.start ≡ first

-- what the variable of a step's command holds
abbrev pub content_of : List ℕ → State → Inputs → ℤ
content_of image s x = variable s.values (command_of image s x).x

-- ---- what a run has come to before a step

pub record Past : Type 0 where
  -- the open calls
  pub calls : Calls
  -- whether the latest step of BIAS that was executed carried out a move
  pub moved : Bool

-- at load
abbrev pub no_past : Past
no_past = record { calls = no_calls; moved = false }

-- after a step
unfoldable pub past_after : List ℕ → State → Inputs → Past → Past
past_after image s x past = record { calls = calls_after image s x past.calls; moved = moved_last image s x past.moved }

-- ---- a step, and every step of a list

pub record StepRule (image : List ℕ) (past : Past) (s : State) (x : Inputs) : Type 0 where
  -- part 4
  pub returns : executed (step image s x).answer ≡ true → (command_of image s x).code ≡ 0x53
      → Behind (past.calls x.task) (task_at (step image s x).state x.task).block
  -- part 5
  pub stops : (t : ℕ) → t < task_count → (task_at s t).status ≡ runs → ((task_at (step image s x).state t).status ≡ runs → ⊥) → (t ≡ x.task) × Stopped image s x
  -- part 6: status, block, start, call stack and wait of another task stay, or 54, 57 or 90 names it, or 5B, if it is BIAS
  pub others : (t : ℕ) → t < task_count → (t ≡ x.task → ⊥)
      → (task_at (step image s x).state t ≡ task_at s t) ⊎ ((executed (step image s x).answer ≡ true) × (starts_anew (command_of image s x).code t ≡ true))
  -- part 6: the notes of BIAS stay in a step of another task, a 57, a 5B and a halt included
  pub notes : (x.task ≡ bias → ⊥) → (step image s x).state.values.notes ≡ s.values.notes
  -- and the header stays, and the landing list
  pub header : (step image s x).state.header ≡ s.header
  pub landings : (step image s x).state.landings ≡ s.landings
  -- part 8: a 58 goes on exactly when its wait is over, and else stays
  pub arrives : executed (step image s x).answer ≡ true → (command_of image s x).code ≡ 0x58
      → (task_at (step image s x).state x.task).block
      ≡ cond (wait_over x past.moved) ((task_at s x.task).block + 1) (task_at s x.task).block
  -- part 9: a 56 goes to the landing block that its variable holds
  pub jumps : executed (step image s x).answer ≡ true → (command_of image s x).code ≡ 0x56
      → LandsAt (terms_held s).landings (content_of image s x) (task_at (step image s x).state x.task).block
  -- and a 5B has BIAS begin anew there, with the program start as its start
  pub begins : executed (step image s x).answer ≡ true → (command_of image s x).code ≡ 0x5B
      → LandsAt (terms_held s).landings (content_of image s x) (task_at (step image s x).state bias).block
      × Anew s.header.start (task_at (step image s x).state bias).block (task_at (step image s x).state bias)

pub data EachStep (image : List ℕ) : Past → State → List Inputs → Type 0 where
  none : {past : Past} {s : State} → EachStep image past s []
  more : {past : Past} {s : State} {x : Inputs} {xs : List Inputs} → StepRule image past s x
      → EachStep image (past_after image s x past) (step image s x).state xs → EachStep image past s (x ∷ xs)

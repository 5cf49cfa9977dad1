-- The reference machine (document 01: plain machine): for each task a list of return blocks without limit, and no test of depth or permission. It is fed the
-- image and each step's task number and inputs. It shares with the engine what a command does, the reading of the header and the landing list, of levels and of
-- operands, whether a code has any, and the numbers of answers, and nothing else.
use Rattle.std.specs.Prelude.{ℕ, ◌+◌, Bool, true, false, cond, List, [], ◌∷◌, eqb, ltb, length, get_or, set, replicate, take, pos, Option, Some, None, Ok, Err}
use Rattle.image_header.specs.Scan.{header_of, landings_of, blocks_of}
use Rattle.command_table.specs.Rows.{row_of}
use Rattle.walk.specs.Blocks.{command_at}
use Rattle.state.specs.declared.Notes.{Notes}
use Rattle.state.specs.declared.Values.{Values}
use Rattle.machine.specs.Inputs.{Inputs, level}
use Rattle.machine.specs.Effect.{effect_of}
use Rattle.machine.specs.declared.Request.{Request}
use Rattle.machine.specs.declared.Request.TheVariants.{MoveTo, MoveBy, Forward, Backward, Stop}
use Rattle.machine.specs.declared.Outcome.{Outcome}
use Rattle.machine.specs.declared.Outcome.TheVariants.{GoOn, Stay, Jump, Call, Return, Start, Restart, End, Halt}
use Rattle.machine.specs.declared.Effect.{Effect}
use Rattle.machine.specs.Answers.{Answer}
use Rattle.machine.specs.declared.NotDone.TheVariants.{NoTask, Inputs as BadInputs, NotRunning, Halted}

-- a task: whether it runs, its block, its start block, its wait (T and k), and its return blocks, the latest first
pub record Thread : Type 0 where
  pub runs : Bool
  pub block : ℕ
  pub start : ℕ
  pub time : ℕ
  pub turns : ℕ
  pub returns : List ℕ

abbrev pub thread_at : ℕ → ℕ → ℕ → ℕ → List ℕ → Thread
thread_at block start time turns returns = record { runs = true; block = block; start = start; time = time; turns = turns; returns = returns }

-- not running
abbrev pub off : Thread → Thread
off thread = record { runs = false; block = thread.block; start = thread.start; time = 0; turns = 0; returns = thread.returns }

-- a state: the values and the three tasks
pub record Machine : Type 0 where
  pub values : Values
  pub threads : List Thread

-- ---- as load leaves it: position 0, the other parameters at their least, the start input taken as high, no move before, BIAS alone running

abbrev pub idle : Thread
idle = off (thread_at 0 0 0 0 [])

unfoldable pub reference_loaded : List ℕ → Machine
reference_loaded image = record {
  values = record {
    cells = record { variables = replicate 256 (pos 0); flags = replicate 256 0; outputs = replicate 256 0 };
    motion = record { axis = record { position = pos 0; speed = 1; acceleration = 1; deceleration = 1 }; mark = 0 };
    notes = record { level = 1; moved = 0 };
  };
  threads = thread_at (header_of image).header.start (header_of image).header.start 0 0 [] ∷ idle ∷ idle ∷ [];
}

-- ---- a command's outcome

abbrev pub goes_to : ℕ → Thread → Thread
goes_to b thread = thread_at b thread.start 0 0 thread.returns

-- to the latest entry, which comes off
abbrev pub back : Thread → List ℕ → Thread
back thread [] = thread
back thread (b ∷ bs) = thread_at b thread.start 0 0 bs

abbrev pub put : ℕ → Thread → List Thread → List Thread
put t thread l = set l t thread

-- 57 and 5B leave BIAS's start where it is; 54 and 90 name the start of the task they start
abbrev pub anew : ℕ → ℕ → List Thread → Thread
anew u a l = thread_at a (cond (eqb u 0) (get_or l 0 idle).start a) 0 0 []

unfoldable pub follows : ℕ → Thread → Outcome → List Thread → List Thread
follows t thread GoOn l = put t (goes_to (thread.block + 1) thread) l
follows t thread (Stay time turns) l = put t (thread_at thread.block thread.start time turns thread.returns) l
follows t thread (Jump a) l = put t (goes_to a thread) l
follows t thread (Call a) l = put t (thread_at a thread.start 0 0 ((thread.block + 1) ∷ thread.returns)) l
follows t thread Return l = put t (back thread thread.returns) l
follows t thread (Start u a) l = put u (anew u a l) (put t (goes_to (thread.block + 1) thread) l)
follows t thread Restart l = put t (thread_at thread.start thread.start 0 0 []) l
follows t thread End l = put t (off thread) l
follows t thread (Halt q) l = put t (off thread) l

-- ---- a step

pub record ReferenceOut : Type 0 where
  pub machine : Machine
  pub request : Option Request
  pub answer : Answer

abbrev pub stands_still : Machine → Answer → ReferenceOut
stands_still m a = record { machine = m; request = None; answer = a }

abbrev pub replies : Outcome → ℕ → Thread → Answer
replies GoOn t thread = Ok tt
replies (Stay time turns) t thread = Ok tt
replies (Jump a) t thread = Ok tt
replies (Call a) t thread = Ok tt
replies Return t thread = Ok tt
replies (Start u a) t thread = Ok tt
replies Restart t thread = Ok tt
replies End t thread = Ok tt
replies (Halt q) t thread = Err (Halted q (record { task = t; block = thread.block; depth = length thread.returns }))

-- whether what is asked of the axis is a move: to a position, by a distance, or endless
abbrev pub moving : Option Request → ℕ
moving (Some (MoveTo axis)) = 1
moving (Some (MoveBy axis)) = 1
moving (Some (Forward axis)) = 1
moving (Some (Backward axis)) = 1
moving (Some (Stop mode deceleration)) = 0
moving None = 0

-- a task that 19, 20 or 22 halts has carried out nothing: what was noted of a move stands
abbrev pub move_note : Outcome → ℕ → ℕ → ℕ
move_note (Halt q) was is = was
move_note GoOn was is = is
move_note (Stay time turns) was is = is
move_note (Jump a) was is = is
move_note (Call a) was is = is
move_note Return was is = is
move_note (Start u a) was is = is
move_note Restart was is = is
move_note End was is = is

-- BIAS's steps note the start input's level, and whether they were a move (change request 4); the notes before are the machine's own
abbrev pub keeps : ℕ → ℕ → Notes → Effect → Values
keeps t start before e = record {
  cells = e.values.cells;
  motion = e.values.motion;
  notes = cond (eqb t 0) (record { level = level start; moved = move_note e.outcome before.moved (moving e.request) }) before;
}

unfoldable pub does : Machine → Inputs → Thread → Effect → ReferenceOut
does m x thread e = record {
  machine = record { values = keeps x.task x.start m.values.notes e; threads = follows x.task thread e.outcome m.threads };
  request = e.request;
  answer = replies e.outcome x.task thread;
}

-- a return with nothing to return to
abbrev pub lost : Outcome → List ℕ → Bool
lost Return [] = true
lost Return (b ∷ bs) = false
lost GoOn l = false
lost (Stay time turns) l = false
lost (Jump a) l = false
lost (Call a) l = false
lost (Start u a) l = false
lost Restart l = false
lost End l = false
lost (Halt q) l = false

-- a return with nothing to return to stands still
unfoldable pub tries : Machine → Inputs → Thread → Effect → ReferenceOut
tries m x thread e = cond (lost e.outcome thread.returns) (stands_still m (Ok tt)) (does m x thread e)

-- the landing blocks of an image, as many as its landing count says (change request 1)
abbrev pub landing_blocks : List ℕ → List ℕ
landing_blocks image = take (header_of image).header.landings (landings_of image)

-- the command at its block; past the end, and where there is no command, it stands still
unfoldable pub acts : List ℕ → Machine → Inputs → Thread → ReferenceOut
acts image m x thread =
    cond (ltb thread.block (header_of image).header.count)
    (cond (row_of (command_at (blocks_of image) thread.block).code).carried
    (tries m x thread
    (effect_of x.levels (landing_blocks image)
    (record {
      drive = (header_of image).header.drive;
      start = level x.start;
      ramp_ended = level x.ramp_ended;
      in_window = level x.in_window;
      time = thread.time;
      turns = thread.turns;
    })
    (command_at (blocks_of image) thread.block) m.values))
    (stands_still m (Ok tt)))
    (stands_still m (Ok tt))

-- what 15 and 18 describe changes nothing
unfoldable pub reference_step : List ℕ → Machine → Inputs → ReferenceOut
reference_step image m x =
    cond (ltb 2 x.task) (stands_still m (Err (NoTask x.task)))
    (cond (eqb (length x.levels) 256)
    (cond (get_or m.threads x.task idle).runs (acts image m x (get_or m.threads x.task idle)) (stands_still m (Err NotRunning)))
    (stands_still m (Err (BadInputs (length x.levels)))))

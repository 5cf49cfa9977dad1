-- Walks, as document 01 ("Walks") and change request 1 have them: one constructor for each way that their sentences name; 53, and 51 in the modes that end,
-- have none. A walk is a path, the points passed so far with the latest first; its own history, the latest 54 and 90 among them, tells where a return to a
-- start leads.
use Rattle.std.specs.Prelude.{ℕ, ◌+◌, ◌≡◌, Bool, true, false, ◌&&◌, ◌||◌, not, cond, List, [], ◌∷◌, eqb, Ok}
use Rattle.limits.specs.Limits.{bias, plc, mathematics}
use Rattle.walk_flow.specs.Terms.{Terms}
use Rattle.command_operands.specs.declared.Command.{Command}
use Rattle.walk_point.specs.PointFault.{point}
use Rattle.walk_point.specs.declared.Point.{Point}
use Rattle.walk.specs.Blocks.{command_at, fault_at}
use Rattle.walk.specs.Graph.{In}

-- ---- which codes do what, by the manual

abbrev pub one_of : List ℕ → ℕ → Bool
one_of [] code = false
one_of (k ∷ ks) code = eqb code k || one_of ks code

-- jumps, and branches that may jump (55, 61, 6E, 70, 71, 81, 89)
abbrev pub jumps : ℕ → Bool
jumps = one_of (0x55 ∷ 0x61 ∷ 0x6E ∷ 0x70 ∷ 0x71 ∷ 0x81 ∷ 0x89 ∷ [])

-- moves and waits, which may stay at their block (00, 01, 03, 04, 58, 59, 5A)
abbrev pub stays : ℕ → Bool
stays = one_of (0x00 ∷ 0x01 ∷ 0x03 ∷ 0x04 ∷ 0x58 ∷ 0x59 ∷ 0x5A ∷ [])

-- 57, 54 and 90 start BIAS, the PLC and mathematics at the block that they name
abbrev pub starts : ℕ → ℕ → Bool
starts code task = (eqb code 0x57 && eqb task bias) || ((eqb code 0x54 && eqb task plc) || (eqb code 0x90 && eqb task mathematics))

-- a command starts this task anew: so does 5B BIAS, at the block that a variable holds (change request 1)
abbrev pub starts_anew : ℕ → ℕ → Bool
starts_anew code task = starts code task || (eqb code 0x5B && eqb task bias)

-- what may go on with the next block at the same depth, 52 apart: all but 51, 53, 55, 56 and a start of the own task
abbrev pub goes_on : ℕ → ℕ → Bool
goes_on code task = not (one_of (0x51 ∷ 0x52 ∷ 0x53 ∷ 0x55 ∷ 0x56 ∷ []) code || starts_anew code task)

-- ---- the start of a task

-- the block that a start named, if there was one
pub data Named : Type 0 where
  none : Named
  at : ℕ → Named

-- the block named by the latest command with this code among the points passed
unfoldable pub latest : List ℕ → ℕ → List Point → Named
latest bs code [] = none
latest bs code (p ∷ path) = cond (eqb (command_at bs p.block).code code) (at (command_at bs p.block).word) (latest bs code path)

-- where a task starts: BIAS at the program start, the PLC at its latest 54's block, mathematics at its latest 90's
unfoldable pub start_of : Terms → List ℕ → ℕ → List Point → Named
start_of terms bs task path =
    cond (eqb task bias) (at terms.header.start)
    (cond (eqb task plc) (latest bs 0x54 path)
    (cond (eqb task mathematics) (latest bs 0x90 path) none))

-- ---- steps and walks

-- one step from the point p, where the command c is, of a walk that has passed `path`, p included
pub data WalkStep (terms : Terms) (bs : List ℕ) (path : List Point) (p : Point) (c : Command) : Point → Type 0 where
  next : goes_on c.code p.task ≡ true → WalkStep terms bs path p c (point p.task (p.block + 1) p.depth)
  stay : stays c.code ≡ true → WalkStep terms bs path p c p
  jump : jumps c.code ≡ true → WalkStep terms bs path p c (point p.task c.word p.depth)
  -- 52: into the sub-program, one deeper; and to the block behind the call, at its own depth
  call : c.code ≡ 0x52 → WalkStep terms bs path p c (point p.task c.word (p.depth + 1))
  behind : c.code ≡ 0x52 → WalkStep terms bs path p c (point p.task (p.block + 1) p.depth)
  -- 54, 57, 90 that start another task: to the named block of that task at depth 0 (and on, by `next`)
  start : (u : ℕ) → starts c.code u ≡ true → (u ≡ p.task → ⊥) → WalkStep terms bs path p c (point u c.word 0)
  -- that start their own: to the named block at depth 0, and nowhere else. (Forbidden by 9 today, as the boxes stand.)
  own : starts c.code p.task ≡ true → WalkStep terms bs path p c (point p.task c.word 0)
  -- 56: to every landing block, at its own depth (change request 1)
  land : (a : ℕ) → c.code ≡ 0x56 → In a terms.landings → WalkStep terms bs path p c (point p.task a p.depth)
  -- 5B: to every landing block of BIAS, at depth 0 (and on, by `next`)
  land_bias : (a : ℕ) → c.code ≡ 0x5B → In a terms.landings → WalkStep terms bs path p c (point bias a 0)
  -- mode 0 of 51 returns to the task's start at depth 0
  restart : (a : ℕ) → c.code ≡ 0x51 → c.x ≡ 0 → start_of terms bs p.task path ≡ at a → WalkStep terms bs path p c (point p.task a 0)

-- a walk that has passed `path` and is now at a point. BIAS begins it at the program start, inside no call; it goes on only where nothing is broken:
-- neither from a bad point nor from a foreign 51
pub data Walk (terms : Terms) (bs : List ℕ) : List Point → Point → Type 0 where
  begin : Walk terms bs [] (point bias terms.header.start 0)
  onward : {path : List Point} {p : Point} (q : Point) → Walk terms bs path p → fault_at terms bs p ≡ Ok tt
      → WalkStep terms bs (p ∷ path) p (command_at bs p.block) q → Walk terms bs (p ∷ path) q

-- some walk ends there
pub record Reaches (terms : Terms) (bs : List ℕ) (p : Point) : Type 0 where
  pub path : List Point
  pub walk : Walk terms bs path p

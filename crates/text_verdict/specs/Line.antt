-- The line of a verdict, as bytes (document 01, on the verdict program): for case B it is `refusal 12 place 0 task 0 depth 0` and a line end.
use Rattle.std.specs.Prelude.{◌≡◌, ℕ, List, [], ◌∷◌, ◌++◌, take}
use Rattle.std.specs.Counts.{IsPrefixLen}
use Rattle.text.specs.Text.{labelled}
use Rattle.walk.specs.Verdict.{verdict_number, verdict_place, verdict_task, verdict_depth}
use Rattle.walk.specs.Verdict.{Verdict}
use Rattle.text_verdict.specs.declared.LineBytes.{LineBytes}

-- `refusal `
abbrev pub refusal_word : List ℕ
refusal_word = 114 ∷ 101 ∷ 102 ∷ 117 ∷ 115 ∷ 97 ∷ 108 ∷ 32 ∷ []

-- ` place `
abbrev pub place_word : List ℕ
place_word = 32 ∷ 112 ∷ 108 ∷ 97 ∷ 99 ∷ 101 ∷ 32 ∷ []

-- ` task `
abbrev pub task_word : List ℕ
task_word = 32 ∷ 116 ∷ 97 ∷ 115 ∷ 107 ∷ 32 ∷ []

-- ` depth `
abbrev pub depth_word : List ℕ
depth_word = 32 ∷ 100 ∷ 101 ∷ 112 ∷ 116 ∷ 104 ∷ 32 ∷ []

abbrev pub line_end : List ℕ
line_end = 10 ∷ []

-- number, byte or block, task, depth
unfoldable pub line_of : Verdict → List ℕ
line_of v =
    labelled refusal_word (verdict_number v) ++ labelled place_word (verdict_place v)
    ++ labelled task_word (verdict_task v) ++ labelled depth_word (verdict_depth v)
    ++ line_end

-- room for the line of any verdict
abbrev pub line_room : ℕ
line_room = 80

-- the bytes that are a line are this text
pub record Holds (text : List ℕ) (l : LineBytes) : Type 0 where
  pub counts : IsPrefixLen l.length l.bytes
  pub is : take l.length l.bytes ≡ text

-- The rows of the table by name and answer, in document 01's order: none is left out, and none answers what it should not.
use Rattle.std.specs.Prelude.{Some, None}
use mathlib.Core.Path.{◌≡◌, refl}
use mathlib.Core.List.{[], ◌∷◌, map}
use lib.ListN.{replicate}
use lib.IntN.{negsuc}
use Rattle.state.specs.State.{start_axis}
use Rattle.machine.specs.declared.Request.TheVariants.{MoveTo}
use Rattle.proved_cases.specs.Images.{block, first_blocks, landing_bytes, assign}
use Rattle.proved_cases.specs.Table.{Name, Reply, Entry, turn, start_at, stand, came, accepted, case_table}
use Rattle.proved_cases.specs.Table.Name.{A, B, C, D, E, F, G, H, I, J, K, L, chain_of, marks_of, block_before_task, task_before_depth, on_drive, output_instead}
use Rattle.proved_cases.specs.Table.Name.{held_start, start_mark, in_steps, landing_begun, in_format1, landing, landing_steps, landings_instead, writer}
use Rattle.proved_cases.specs.Table.Reply.{refusal, value, no_number, standing, whole, motions, trail}

record Told : Type 0 where
  name : Name
  answer : Reply

abbrev told : Name → Reply → Told
told n a = record { name = n; answer = a }

pub named : map (λ (r : Entry). told r.name r.answer) case_table
    ≡ told A accepted ∷ told B (refusal 12 0 0 0) ∷ told C (refusal 3 4 0 0) ∷ told D (refusal 10 0 0 5) ∷ told E (refusal 11 1 0 0) ∷ told F (refusal 9 0 1 0)
    ∷ told G accepted ∷ told H (refusal 7 0 0 0) ∷ told I (refusal 6 0 0 0) ∷ told I accepted
    ∷ told J (standing (stand 0 1000 526) (stand 1 0 0)) ∷ told J (standing (stand 0 1000 1184) (stand 1 0 0))
    ∷ told K (value 1500) ∷ told K (no_number 2) ∷ told K (no_number 1) ∷ told K (refusal 2 4 0 0)
    ∷ told L (whole (negsuc 2)) ∷ told L (whole (negsuc 2)) ∷ told (chain_of 5) accepted ∷ told (chain_of 6) (refusal 10 10 0 5)
    ∷ told (marks_of 26999) (refusal 13 26999 0 0) ∷ told (marks_of 27000) accepted
    ∷ told block_before_task (refusal 9 1 1 0) ∷ told task_before_depth (refusal 12 3 0 1)
    ∷ told (on_drive 2 0 0 (block 114 217 1 0 ∷ [])) (refusal 23 0 0 0) ∷ told (on_drive 2 0 1 (block 114 217 1 0 ∷ block 85 0 0 0 ∷ [])) accepted
    ∷ told (on_drive 0 0 0 (block 114 217 1 0 ∷ [])) (refusal 6 0 0 0)
    ∷ told (on_drive 2 0 0 (block 114 125 1 0 ∷ [])) (refusal 6 0 0 0) ∷ told (on_drive 4 0 0 (block 114 125 1 0 ∷ [])) (refusal 23 0 0 0)
    ∷ told (on_drive 4 1 0 (block 114 125 1 0 ∷ [])) (refusal 23 0 0 0)
    ∷ told (on_drive 2 0 0 (block 99 0 101 0 ∷ [])) (refusal 23 0 0 0) ∷ told (on_drive 2 0 0 (block 114 101 1 0 ∷ [])) (refusal 6 0 0 0)
    ∷ told (on_drive 2 0 0 (block 114 217 2 0 ∷ [])) (refusal 23 0 0 0) ∷ told (on_drive 3 0 0 (block 110 0 0 0 ∷ [])) (refusal 6 0 0 0)
    ∷ told (output_instead 217) (refusal 17 0 0 0) ∷ told (output_instead 8) (refusal 17 0 0 0) ∷ told (output_instead 13) accepted
    ∷ told held_start (motions (None ∷ None ∷ None ∷ Some (MoveTo start_axis) ∷ [])) ∷ told start_mark (motions (None ∷ Some (MoveTo start_axis) ∷ None ∷ None ∷ []))
    ∷ told (in_steps (block 14 0 0 0 ∷ block 0 0 0 0 ∷ block 88 0 0 0 ∷ block 85 2 0 0 ∷ [])
    (turn 0 1 1 256 ∷ turn 0 1 1 256 ∷ turn 0 1 1 256 ∷ turn 0 1 1 256 ∷ []))
    (trail 0 (came 0 1 ∷ came 0 2 ∷ came 0 2 ∷ came 0 3 ∷ []))
    ∷ told (in_steps (block 14 0 0 0 ∷ block 1 0 0 0 ∷ block 88 0 0 0 ∷ block 85 2 0 0 ∷ [])
    (turn 0 1 1 256 ∷ turn 0 1 1 256 ∷ turn 0 1 1 256 ∷ turn 0 1 1 256 ∷ []))
    (trail 0 (came 0 1 ∷ came 0 2 ∷ came 0 2 ∷ came 0 3 ∷ []))
    ∷ told (in_steps (block 14 0 0 0 ∷ block 3 0 0 0 ∷ block 88 0 0 0 ∷ block 85 2 0 0 ∷ [])
    (turn 0 1 1 256 ∷ turn 0 1 1 256 ∷ turn 0 1 1 256 ∷ turn 0 1 1 256 ∷ []))
    (trail 0 (came 0 1 ∷ came 0 2 ∷ came 0 2 ∷ came 0 3 ∷ []))
    ∷ told (in_steps (block 14 0 0 0 ∷ block 4 0 0 0 ∷ block 88 0 0 0 ∷ block 85 2 0 0 ∷ [])
    (turn 0 1 1 256 ∷ turn 0 1 1 256 ∷ turn 0 1 1 256 ∷ turn 0 1 1 256 ∷ []))
    (trail 0 (came 0 1 ∷ came 0 2 ∷ came 0 2 ∷ came 0 3 ∷ []))
    ∷ told (in_steps (block 88 0 0 0 ∷ block 85 0 0 0 ∷ [])
    (turn 0 1 1 256 ∷ []))
    (trail 0 (came 0 1 ∷ []))
    ∷ told (in_steps (block 88 0 0 0 ∷ block 85 0 0 0 ∷ [])
    (turn 0 2 255 256 ∷ []))
    (trail 0 (came 0 1 ∷ []))
    ∷ told (in_steps (block 88 0 0 0 ∷ block 85 0 0 0 ∷ [])
    (turn 0 1 0 256 ∷ []))
    (trail 0 (came 0 0 ∷ []))
    ∷ told (in_steps (block 88 0 0 0 ∷ block 85 0 0 0 ∷ [])
    (turn 0 0 1 256 ∷ []))
    (trail 0 (came 0 0 ∷ []))
    ∷ told (in_steps (block 14 0 0 0 ∷ block 0 0 0 0 ∷ block 80 0 0 0 ∷ block 88 0 0 0 ∷ block 85 3 0 0 ∷ [])
    (turn 0 1 1 256 ∷ turn 0 1 1 256 ∷ turn 0 1 1 256 ∷ turn 0 1 1 256 ∷ []))
    (trail 0 (came 0 1 ∷ came 0 2 ∷ came 0 3 ∷ came 0 4 ∷ []))
    ∷ told (in_steps (block 84 5 0 0 ∷ block 14 0 0 0 ∷ block 0 0 0 0 ∷ block 88 0 0 0 ∷ block 85 3 0 0 ∷ block 85 5 0 0 ∷ [])
    (turn 0 1 1 256 ∷ turn 0 1 1 256 ∷ turn 0 1 1 256 ∷ turn 1 1 1 256 ∷ turn 0 1 1 256 ∷ turn 0 1 1 256 ∷ []))
    (trail 0 (came 0 1 ∷ came 0 2 ∷ came 0 3 ∷ came 0 3 ∷ came 0 3 ∷ came 0 4 ∷ []))
    ∷ told (in_steps (block 14 0 0 0 ∷ block 0 0 0 0 ∷ block 88 0 0 0 ∷ block 85 2 0 0 ∷ [])
    (turn 0 1 1 256 ∷ turn 0 1 1 256 ∷ turn 0 1 1 255 ∷ turn 0 1 1 256 ∷ turn 0 1 1 256 ∷ []))
    (trail 0 (came 0 1 ∷ came 0 2 ∷ came 15 2 ∷ came 0 2 ∷ came 0 3 ∷ []))
    ∷ told (in_steps (block 84 6 0 0 ∷ block 14 0 0 0 ∷ block 0 0 0 0 ∷ block 141 0 1 2 ∷ block 88 0 0 0 ∷ block 85 4 0 0 ∷ block 87 4 0 0 ∷ block 85 7 0 0 ∷ [])
    (turn 0 1 1 256 ∷ turn 0 1 1 256 ∷ turn 0 1 1 256 ∷ turn 0 1 1 256 ∷ turn 0 1 1 256 ∷ turn 1 1 1 256 ∷ turn 0 1 1 256 ∷ turn 0 1 1 256 ∷ []))
    (trail 0 (came 0 1 ∷ came 0 2 ∷ came 0 3 ∷ came 19 3 ∷ came 18 3 ∷ came 0 4 ∷ came 0 4 ∷ came 0 5 ∷ []))
    ∷ told (in_steps (block 84 4 0 0 ∷ block 141 0 1 2 ∷ block 88 0 0 0 ∷ block 85 2 0 0 ∷ block 87 2 0 0 ∷ block 85 5 0 0 ∷ [])
    (turn 0 1 1 256 ∷ turn 0 1 1 256 ∷ turn 1 1 1 256 ∷ turn 0 1 1 256 ∷ []))
    (trail 0 (came 0 1 ∷ came 19 1 ∷ came 0 2 ∷ came 0 3 ∷ []))
    ∷ told (in_steps (block 15 0 0 0 ∷ block 88 0 0 0 ∷ block 85 1 0 0 ∷ [])
    (turn 0 1 1 256 ∷ turn 0 1 1 256 ∷ []))
    (trail 0 (came 0 1 ∷ came 0 2 ∷ []))
    ∷ told (in_steps (block 84 4 0 0 ∷ block 0 0 0 0 ∷ block 88 0 0 0 ∷ block 85 2 0 0 ∷ block 87 2 0 0 ∷ block 85 5 0 0 ∷ [])
    (turn 0 1 1 256 ∷ turn 0 1 1 256 ∷ turn 1 1 1 256 ∷ turn 0 1 1 256 ∷ []))
    (trail 0 (came 0 1 ∷ came 0 1 ∷ came 0 2 ∷ came 0 3 ∷ []))
    ∷ told (landing_begun (0 ∷ 1 ∷ 65 ∷ [])) (refusal 21 6 0 0)
    ∷ told (landing_begun (0 ∷ 1 ∷ 128 ∷ 0 ∷ [])) (refusal 2 6 0 0)
    ∷ told (landing_begun (0 ∷ 1 ∷ [])) (refusal 1 6 0 0)
    ∷ told (landing_begun (0 ∷ 2 ∷ 2 ∷ 1 ∷ 1 ∷ [])) (refusal 21 8 0 0)
    ∷ told (landing_begun (0 ∷ 2 ∷ 2 ∷ 1 ∷ 0 ∷ [])) (refusal 21 8 0 0)
    ∷ told (landing_begun (0 ∷ 2 ∷ 1 ∷ 2 ∷ [])) (refusal 21 7 0 0)
    ∷ told (landing_begun (5 ∷ 2 ∷ 1 ∷ 2 ∷ [])) (refusal 3 4 0 0)
    ∷ told (landing_begun (128 ∷ 1 ∷ 129 ∷ 1 ∷ 1 ∷ 129 ∷ 1 ∷ [])) (refusal 21 9 0 0)
    ∷ told (in_format1 (block 86 0 0 0 ∷ [])) accepted
    ∷ told (landing 0 (3 ∷ []) (block 82 2 0 0 ∷ block 85 1 0 0 ∷ block 86 0 0 0 ∷ block 83 0 0 0 ∷ [])) accepted
    ∷ told (landing 2 (3 ∷ []) (block 82 2 0 0 ∷ block 85 1 0 0 ∷ block 86 0 0 0 ∷ block 83 0 0 0 ∷ [])) (refusal 11 3 0 0)
    ∷ told (landing 0 (0 ∷ []) (block 84 2 0 0 ∷ block 85 1 0 0 ∷ block 91 0 0 0 ∷ block 85 3 0 0 ∷ [])) accepted
    ∷ told (landing 0 (0 ∷ []) (block 84 2 0 0 ∷ block 85 1 0 0 ∷ block 91 0 0 0 ∷ [])) (refusal 12 2 1 0)
    ∷ told (landing 0 (0 ∷ []) (block 91 0 0 0 ∷ block 85 0 0 0 ∷ [])) (refusal 9 0 0 0)
    ∷ told (landing 0 (4 ∷ []) (block 84 2 0 0 ∷ block 85 1 0 0 ∷ block 91 0 0 0 ∷ block 85 3 0 0 ∷ block 83 0 0 0 ∷ [])) (refusal 11 4 0 0)
    ∷ told (landing 0 (first_blocks 64) (block 86 0 0 0 ∷ replicate 63 (block 85 0 0 0))) accepted
    ∷ told (landing_steps (1 ∷ []) (block 86 0 0 0 ∷ block 85 1 0 0 ∷ [])
    (turn 0 1 1 256 ∷ turn 0 1 1 256 ∷ [])) (trail 0 (came 22 0 ∷ came 18 0 ∷ []))
    ∷ told (landing_steps (2 ∷ []) (assign 2 0 0 0 ∷ block 86 0 0 0 ∷ block 85 2 0 0 ∷ [])
    (turn 0 1 1 256 ∷ turn 0 1 1 256 ∷ [])) (trail 0 (came 0 1 ∷ came 0 2 ∷ []))
    ∷ told (landing_steps (2 ∷ []) (assign 255 255 255 255 ∷ block 86 0 0 0 ∷ block 85 2 0 0 ∷ [])
    (turn 0 1 1 256 ∷ turn 0 1 1 256 ∷ [])) (trail 0 (came 0 1 ∷ came 22 1 ∷ []))
    ∷ told (landing_steps (2 ∷ []) (assign 2 0 1 0 ∷ block 86 0 0 0 ∷ block 85 2 0 0 ∷ [])
    (turn 0 1 1 256 ∷ turn 0 1 1 256 ∷ [])) (trail 0 (came 0 1 ∷ came 22 1 ∷ []))
    ∷ told (landing_steps (3 ∷ []) (block 84 4 0 0 ∷ block 86 0 0 0 ∷ block 0 0 0 0 ∷ block 85 3 0 0 ∷ block 87 2 0 0 ∷ block 85 5 0 0 ∷ [])
    (start_at 0 1 ∷ start_at 0 0 ∷ start_at 1 0 ∷ start_at 0 1 ∷ [])) (trail 0 (came 0 1 ∷ came 22 1 ∷ came 0 2 ∷ came 0 3 ∷ []))
    ∷ told (landing_steps (3 ∷ []) (block 84 4 0 0 ∷ block 86 0 0 0 ∷ block 0 0 0 0 ∷ block 85 3 0 0 ∷ block 87 2 0 0 ∷ block 85 5 0 0 ∷ [])
    (start_at 0 0 ∷ start_at 0 1 ∷ start_at 1 0 ∷ start_at 0 1 ∷ [])) (trail 0 (came 0 1 ∷ came 22 1 ∷ came 0 2 ∷ came 0 2 ∷ []))
    ∷ told (landing_steps (2 ∷ []) (block 84 3 0 0 ∷ block 81 1 0 0 ∷ block 85 2 0 0 ∷ assign 2 0 0 0 ∷ block 91 0 0 0 ∷ block 85 5 0 0 ∷ [])
    (turn 0 1 1 256 ∷ turn 0 1 1 256 ∷ turn 0 1 1 256 ∷ turn 1 1 1 256 ∷ turn 1 1 1 256 ∷ turn 0 1 1 256 ∷ [])) (trail 0 (came 0 1 ∷ came 0 1 ∷ came 18 1 ∷ came 0 1 ∷ came 0 2 ∷ came 0 2 ∷ []))
    ∷ told (landing_steps (2 ∷ []) (block 84 3 0 0 ∷ block 86 0 0 0 ∷ block 85 2 0 0 ∷ assign 2 0 0 0 ∷ block 91 0 0 0 ∷ block 85 5 0 0 ∷ [])
    (turn 0 1 1 256 ∷ turn 0 1 1 256 ∷ turn 0 1 1 256 ∷ turn 1 1 1 256 ∷ turn 1 1 1 256 ∷ turn 0 1 1 256 ∷ [])) (trail 0 (came 0 1 ∷ came 22 1 ∷ came 18 1 ∷ came 0 1 ∷ came 0 2 ∷ came 0 2 ∷ []))
    ∷ told (landing_steps (3 ∷ []) (block 84 2 0 0 ∷ block 85 1 0 0 ∷ block 91 0 0 0 ∷ block 85 3 0 0 ∷ [])
    (turn 0 1 1 256 ∷ turn 1 1 1 256 ∷ turn 1 1 1 256 ∷ turn 0 1 1 256 ∷ [])) (trail 0 (came 0 1 ∷ came 22 1 ∷ came 18 1 ∷ came 0 1 ∷ []))
    ∷ told (landings_instead (1 ∷ 2 ∷ []) (0 ∷ 2 ∷ [])) (refusal 17 0 0 0)
    ∷ told (landings_instead (1 ∷ 2 ∷ []) (1 ∷ 3 ∷ [])) (refusal 17 0 0 0)
    ∷ told (landings_instead (1 ∷ 2 ∷ []) (1 ∷ 2 ∷ [])) accepted
    ∷ told (writer (127 ∷ 0 ∷ 128 ∷ 0 ∷ 128 ∷ 0 ∷ []) 1600) (refusal 21 11 0 0)
    ∷ told (writer (landing_bytes (first_blocks 65)) 1600) (refusal 21 7 0 0)
    ∷ told (writer (landing_bytes (first_blocks 64)) 1600) accepted
    ∷ told (writer (127 ∷ 0 ∷ 128 ∷ []) 1600) (refusal 21 7 0 0)
    ∷ told (writer (127 ∷ 0 ∷ []) 1599) (refusal 1 1599 0 0)
    ∷ told (writer (127 ∷ 0 ∷ []) 1600) accepted
    ∷ []
unfolding case_table
named = refl

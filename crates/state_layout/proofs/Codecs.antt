-- The laws of each codec, at any place: how many bytes it has; what is read where they stand; and that a buffer has the bytes of what is read there.
use Prim.Native.Nat.{ℕ, ◌+◌, ◌*◌, ◌<◌, ◌≤◌}
use native.Mathlib.Omega.{arith}
use mathlib.Core.Path.{◌≡◌, refl, sym, ap, ◌∙◌, subst}
use mathlib.Core.Logic.{◌⊎◌, inl, inr}
use mathlib.Core.List.{List, [], ◌∷◌}
use lib.IntN.{ℤ, pos}
use lib.ListN.{length, get_or}
use mir.Syntax.{w32}
use mir.Val.{Fits, SFits, to_z}
use mir.ValLaws.{to_z-Fits}
use mir.Facts.{of_z-to_z}
use Rattle.limits.specs.Limits.{plc, mathematics, most_depth, most_landings, cells}
use Rattle.num_arith.specs.Wrap.{word, wrap}
use Rattle.num_arith.proofs.Cut.{word_fits, word_same, wrap_same}
use Rattle.logic.proofs.Choice.{by}
use Rattle.drive.specs.Types.{slot_b, slot_c}
use Rattle.drive.proofs.EveryDrive.{board_small}
use Rattle.image_header.specs.Numbers.{numbers_of, header_from}
use Rattle.image_header.specs.Rows.{format1, format2}
use Rattle.image_header.specs.GoodHeader.{GoodHeader, GoodLandings}
use Rattle.image_header.proofs.Rows.{most_of_lem}
use Rattle.image_header.specs.declared.Header.{Header}
use Rattle.num_le.specs.LittleEndian.{Bytes, le_bytes}
use Rattle.state_bytes.specs.Bytes.{le_number_at, signed_at, signed_bytes, puts}
use Rattle.state_bytes.proofs.Puts.{length_concatenated, puts_has}
use Rattle.logic.proofs.Has.{Has}
use Rattle.state_bytes.proofs.Numbers.{number, signed, each, run, number_below, of_number, of_signed}
use Rattle.state_bytes.proofs.Tables.{table_is, length_table, get_or_table}
use Rattle.state_sections.specs.Records.{record_bytes, record_in}
use Rattle.state_sections.proofs.Sections.{lens, length_joined, section, moved, end, part, together, at_first}
use Rattle.state_sections.proofs.Records.{FitWidths, record_back, record_has}
use Rattle.state.specs.GoodState.{GoodMotion, GoodNotes}
use Rattle.state.specs.State.{task_at}
use Rattle.state.specs.declared.State.{State}
use Rattle.state.specs.declared.Task.{Task}
use Rattle.state.specs.declared.Motion.{Motion}
use Rattle.state.specs.declared.Notes.{Notes}
use Rattle.state_layout.specs.Codecs.{variables_length, variable_bytes, variables_in, levels_length, levels_in, header_widths, header_bytes, header_in}
use Rattle.state_layout.specs.Codecs.{motion_widths, motion_record, motion_bytes, motion_from, motion_in, notes_widths, notes_bytes, notes_from, notes_in}
use Rattle.state_layout.specs.Codecs.{start_widths}
use Rattle.state_layout.specs.Codecs.{start_bytes, starts_in}
use Rattle.state_layout.specs.Codecs.{word_bytes, words_in, landing_bytes, landings_in, task_lengths, task_length, task_part, task_parts, task_bytes, task_in}
use Rattle.state_layout.proofs.Bounds.{TaskFits}

-- ---- variables

pub variables_long : (v : List ℤ) → length (variable_bytes v) ≡ variables_length
unfolding variable_bytes
variables_long v = length_concatenated (λ (k : ℕ). signed_bytes (get_or v k (pos 0))) 4 (λ k. refl) cells

pub variables_back : (l : List ℕ) (at : ℕ) (v : List ℤ) → length v ≡ cells → ((i : ℕ) → SFits w32 (get_or v i (pos 0))) → Has l at (variable_bytes v)
    → variables_in l at ≡ v
unfolding variables_in variable_bytes
variables_back l at v e f h =
    table_is cells (λ (k : ℕ). signed_at l (at + 4 * k)) v (pos 0) e
    (λ k lt. signed (get_or v k (pos 0)) (f k) (each (λ (j : ℕ). signed_bytes (get_or v j (pos 0))) 4 (λ j. refl) cells h k lt))

pub variables_has : (b : List ℕ) (at : ℕ) → Bytes b → Has b at (variable_bytes (variables_in b at))
unfolding variable_bytes variables_in
variables_has b at bytes =
    run (λ (j : ℕ). signed_bytes (get_or (variables_in b at) j (pos 0))) 4 (λ j. refl) cells b at
    (λ k lt.
    subst (λ (v : ℤ). Has b (at + 4 * k) (signed_bytes v)) (sym (get_or_table cells (λ (j : ℕ). signed_at b (at + 4 * j)) (pos 0) k lt))
    (of_signed b (at + 4 * k) bytes))

-- ---- flags, or outputs

pub levels_long : (b : List ℕ) (at : ℕ) → length (levels_in b at) ≡ levels_length
unfolding levels_in
levels_long b at = length_table cells (λ (k : ℕ). get_or b (at + k) 0)

pub levels_back : (l : List ℕ) (at : ℕ) (v : List ℕ) → length v ≡ levels_length → Has l at v → levels_in l at ≡ v
unfolding levels_in
levels_back l at v e h = table_is cells (λ (k : ℕ). get_or l (at + k) 0) v 0 e (λ k lt. h.is k (omega arith))

pub levels_has : (b : List ℕ) (at : ℕ) → Has b at (levels_in b at)
unfolding levels_in
levels_has b at =
    let long = levels_long b at in
    record { is = λ k lt. sym (get_or_table cells (λ (j : ℕ). get_or b (at + j) 0) 0 k (omega arith)) }

-- ---- the header

format_small : (h : Header) → (h.format ≡ format1) ⊎ (h.format ≡ format2) → h.format < 256
format_small h (inl e) = omega arith
format_small h (inr e) = omega arith

header_fits : (h : Header) → GoodHeader h → FitWidths header_widths (numbers_of h)
header_fits h g =
    let f = g.format in
    let m = g.model in
    let b = board_small slot_b h.drive.model h.drive.b g.board_b in
    let c = board_small slot_c h.drive.model h.drive.c g.board_c in
    let n = g.count.1 in
    let s = g.start in
    let l = g.landings in
    let k = most_of_lem h.format in
    (format_small h f, (omega arith, (omega arith, (omega arith, (omega arith, (omega arith, (omega arith, refl)))))))

pub header_back : (l : List ℕ) (at : ℕ) (h : Header) → GoodHeader h → Has l at (header_bytes h) → header_in l at ≡ h
header_back l at h g x = ap header_from (record_back header_widths (numbers_of h) l at (header_fits h g) x)

-- ---- motion

motion_fits : (m : Motion) → GoodMotion m → FitWidths motion_widths (motion_record m)
motion_fits m g =
    let p = (word_fits w32 m.axis.position).fits in
    let s = g.axis.speed.bounded in
    let c = g.axis.acceleration.bounded in
    let d = g.axis.deceleration.bounded in
    let k = g.mark in
    (p, (omega arith, (omega arith, (omega arith, (omega arith, refl)))))

pub motion_back : (l : List ℕ) (at : ℕ) (m : Motion) → GoodMotion m → Has l at (motion_bytes m) → motion_in l at ≡ m
unfolding wrap
motion_back l at m g x =
    let a = m.axis in
    ap motion_from (record_back motion_widths (motion_record m) l at (motion_fits m g) x)
    ∙ λ ι.
    record {
      axis = record {
        position = wrap_same w32 a.position g.axis.position ι;
        speed = a.speed;
        acceleration = a.acceleration;
        deceleration =
            a.deceleration;
      };
      mark = m.mark;
    }

pub motion_has : (b : List ℕ) (at : ℕ) → Bytes b → Has b at (motion_bytes (motion_in b at))
motion_has b at bytes =
    subst (λ (p : ℕ). Has b at (record_bytes motion_widths (p ∷ n 1 ∷ n 2 ∷ n 3 ∷ n 4 ∷ []))) (sym same) (record_has motion_widths b at bytes)
  where
    n : ℕ → ℕ
    n k = get_or (record_in motion_widths b at) k 0

    same : word w32 (to_z w32 (n 0)) ≡ n 0
    same =
        let f : Fits w32 (n 0) = record { fits = number_below 4 b (at + 0) bytes } in
        word_same w32 (to_z w32 (n 0)) (to_z-Fits w32 (n 0) f) ∙ of_z-to_z f

-- ---- notes

pub notes_back : (l : List ℕ) (at : ℕ) (n : Notes) → GoodNotes n → Has l at (notes_bytes n) → notes_in l at ≡ n
notes_back l at n g x =
    let h = g.level in
    let k = g.moved in
    ap notes_from (record_back notes_widths (n.level ∷ n.moved ∷ []) l at (omega arith, (omega arith, refl)) x)

-- ---- the start blocks

pub starts_back : (l : List ℕ) (at : ℕ) (s : State) → (task_at s plc).start < 65536 → (task_at s mathematics).start < 65536 → Has l at (start_bytes s)
    → starts_in l at ≡ (task_at s plc).start ∷ (task_at s mathematics).start ∷ []
starts_back l at s p m x = record_back start_widths ((task_at s plc).start ∷ (task_at s mathematics).start ∷ []) l at (p, (m, refl)) x

-- ---- n blocks

pub words_long : (n : ℕ) (l : List ℕ) → length (word_bytes n l) ≡ 2 * n
unfolding word_bytes
words_long n l = length_concatenated (λ (i : ℕ). le_bytes 2 (get_or l i 0)) 2 (λ i. refl) n

pub words_count : (n : ℕ) (b : List ℕ) (at : ℕ) → length (words_in n b at) ≡ n
unfolding words_in
words_count n b at = length_table n (λ (i : ℕ). le_number_at 2 b (at + 2 * i))

pub words_back : (n : ℕ) (l : List ℕ) (at : ℕ) (v : List ℕ) → length v ≡ n → ((i : ℕ) → i < n → get_or v i 0 < 65536) → Has l at (word_bytes n v)
    → words_in n l at ≡ v
unfolding words_in word_bytes
words_back n l at v e f h =
    table_is n (λ (i : ℕ). le_number_at 2 l (at + 2 * i)) v 0 e
    (λ k lt. number 2 (get_or v k 0) (f k lt) (each (λ (j : ℕ). le_bytes 2 (get_or v j 0)) 2 (λ j. refl) n h k lt))

pub words_has : (n : ℕ) (b : List ℕ) (at : ℕ) → Bytes b → Has b at (word_bytes n (words_in n b at))
unfolding word_bytes words_in
words_has n b at bytes =
    run (λ (j : ℕ). le_bytes 2 (get_or (words_in n b at) j 0)) 2 (λ j. refl) n b at
    (λ k lt.
    subst (λ (v : ℕ). Has b (at + 2 * k) (le_bytes 2 v)) (sym (get_or_table n (λ (j : ℕ). le_number_at 2 b (at + 2 * j)) 0 k lt))
    (of_number 2 b (at + 2 * k) bytes))

-- put by their own number, which is n
pub words_put : (l l' v : List ℕ) (at n : ℕ) → l' ≡ puts l at (word_bytes (length v) v) → length v ≡ n → l' ≡ puts l at (word_bytes n v)
words_put l l' v at n e q = e ∙ ap (λ (k : ℕ). puts l at (word_bytes k v)) q

-- and read where they were put
pub words_written : (l l' v : List ℕ) (at n : ℕ) → l' ≡ puts l at (word_bytes (length v) v) → length v ≡ n → ((k : ℕ) → get_or v k 0 < 65536)
    → at + 2 * n ≤ length l → words_in n l' at ≡ v
words_written l l' v at n e q f h =
    let w = words_long n v in
    words_back n l' at v q (λ i _. f i) (rw (words_put l l' v at n e q) (puts_has (word_bytes n v) l at (omega arith)))

-- the landing list: no block of it is as great as a word may be
pub landings_back : (l : List ℕ) (at : ℕ) (h : Header) (v : List ℕ) → GoodHeader h → GoodLandings h v → Has l at (landing_bytes v) → landings_in l at ≡ v
landings_back l at h v g k x = words_back most_landings l at v k.long (λ i _. small i) x
  where
    small : (i : ℕ) → get_or v i 0 < 65536
    small i =
        by i h.landings (λ u. let b = k.below i u in let m = g.count.1 in omega arith)
        (λ u. let e = k.past i u in omega arith)

-- ---- a task

pub parts_long : (task : Task) → lens (task_parts task) ≡ task_lengths
parts_long task = let s = words_long most_depth task.stack in λ ι. 1 ∷ 1 ∷ 2 ∷ s ι ∷ 4 ∷ 4 ∷ []

pub task_long : (task : Task) → length (task_bytes task) ≡ task_length
task_long task = length_joined (task_parts task) task_lengths (parts_long task)

pub task_back : (l : List ℕ) (at : ℕ) (task : Task) (start : ℕ) → start ≡ task.start → TaskFits task → Has l at (task_bytes task) → task_in l at start ≡ task
task_back l at task start e f x =
    let place = section (task_parts task) task_lengths (parts_long task) x in
    let status = number 1 task.status f.status (moved (at + 0) at (omega arith) (place 0 (omega arith))) in
    let depth = number 1 task.depth f.depth (place 1 (omega arith)) in
    let block = number 2 task.block f.block (place 2 (omega arith)) in
    let stack = words_back most_depth l (at + task_part 3) task.stack f.long f.entry (place 3 (omega arith)) in
    let time = number 4 task.time f.time (place 4 (omega arith)) in
    let turns = number 4 task.turns f.turns (place 5 (omega arith)) in
    λ ι.
    record { status = status ι; block = block ι; start = e ι; depth = depth ι; stack = stack ι; time = time ι; turns = turns ι }

pub task_has : (b : List ℕ) (at start : ℕ) → Bytes b → Has b at (task_bytes (task_in b at start))
task_has b at start bytes =
    moved (at + 0) at (omega arith)
    (together
    (part (at_first (of_number 1 b at bytes))
    (part (of_number 1 b (at + task_part 1) bytes)
    (part (of_number 2 b (at + task_part 2) bytes)
    (part (words_has most_depth b (at + task_part 3) bytes)
    (part (of_number 4 b (at + task_part 4) bytes)
    (part (of_number 4 b (at + task_part 5) bytes)
    end))))))
    (parts_long (task_in b at start)))

-- The state buffer both ways: a good state is read back from its bytes; a buffer that 16 lets pass is written back from the state it holds; the first
-- buffers are states, and the second hold good ones.
use Prim.Native.Nat.{ℕ, zero, suc, ◌+◌, ◌-◌, ◌*◌, ◌<◌, ◌≤◌}
use native.Mathlib.Omega.{arith}
use mathlib.Core.Path.{◌≡◌, refl, sym, ap, ◌∙◌, subst}
use mathlib.Core.Bool.{true, ◌&&◌}
use mathlib.Core.List.{List, [], ◌∷◌}
use lib.Dec.{eqb}
use lib.IntN.{pos}
use lib.ListN.{length, get_or, get_or-eq_default}
use borrow.Author.Tests.{eqb-true, eq-eqb}
use mir.Syntax.{w32}
use mir.Val.{SFits}
use Rattle.logic.proofs.Each.{each_passes, all_pass}
use Rattle.limits.specs.Limits.{bias, plc, mathematics, task_count, most_depth, most_landings, cells, state_length}
use Rattle.num_le.specs.LittleEndian.{Bytes}
use Rattle.logic.proofs.Choice.{by, both}
use Rattle.state_bytes.specs.Bytes.{le_number_at, signed_at}
use Rattle.logic.proofs.Has.{Has}
use Rattle.state_bytes.proofs.Numbers.{signed_fits}
use Rattle.state_bytes.proofs.Tables.{length_table, get_or_table}
use Rattle.state_sections.specs.Sections.{offset}
use Rattle.state_sections.specs.Records.{record_bytes}
use Rattle.state_sections.proofs.Sections.{section_of, unused_of, part, end, rebuilt}
use Rattle.state_sections.proofs.Records.{record_back, record_has}
use Rattle.state.specs.GoodState.{GoodState}
use Rattle.state.specs.State.{no_task, task_at}
use Rattle.state.specs.declared.State.{State}
use Rattle.state_layout.specs.Codecs.{layout_number, layout_widths, layout_bytes, header_widths, notes_widths, start_widths, variables_in, header_in, starts_in}
use Rattle.state_layout.specs.Codecs.{task_part}
use Rattle.state_layout.specs.Layout.{lengths, sections, variables_at, flags_at, outputs_at, layout_at, header_at, landings_at, motion_at, notes_at, starts_at, task_place}
use Rattle.state_layout.specs.Layout.{unused_at, unused_length}
use Rattle.state_layout.specs.Layout.{encoded, decoded}
use Rattle.state_layout.specs.IsState.{state_is, layout_is, unused_bytes_zero, frame_is, is_state}
use Rattle.state_layout.proofs.Bounds.{TaskFits, task_fits}
use Rattle.state_layout.proofs.Codecs.{variables_back, variables_has, levels_long, levels_back, levels_has, header_back, motion_back, motion_has}
use Rattle.state_layout.proofs.Codecs.{words_count, words_has, landings_back, notes_back, starts_back, task_back, task_has}
use Rattle.state_layout.proofs.Buffer.{long, encoded_long}
use Rattle.state_layout.proofs.Judged.{Shaped, good_judged, judged_good}

pub encoded_length : (s : State) → GoodState s → length (encoded s) ≡ state_length
encoded_length s g = encoded_long s g.values.cells.flags g.values.cells.outputs

-- ---- a state written and read

-- a list of three, by its elements
three : {A : Type 0} (l : List A) (d : A) → length l ≡ task_count → l ≡ get_or l 0 d ∷ get_or l 1 d ∷ get_or l 2 d ∷ []
three [] d e = absurd (omega arith)
three (x ∷ []) d e = absurd (omega arith)
three (x ∷ y ∷ []) d e = absurd (omega arith)
three (x ∷ y ∷ z ∷ []) d e = refl
three (x ∷ y ∷ z ∷ w ∷ l) d e = absurd (omega arith)

-- unused bytes that are 0, each, and the test of them all
zeros_pass : (b : List ℕ) (n : ℕ) → ((k : ℕ) → k < n → get_or b (unused_at + k) 0 ≡ 0) → unused_bytes_zero b n ≡ true
zeros_pass b n h = all_pass (λ (k : ℕ). eqb (get_or b (unused_at + k) 0) 0) n (λ k lt. eq-eqb (get_or b (unused_at + k) 0) 0 (h k lt))

passed_zeros : (b : List ℕ) (n : ℕ) → unused_bytes_zero b n ≡ true → (k : ℕ) → k < n → get_or b (unused_at + k) 0 ≡ 0
passed_zeros b n e k lt = eqb-true _ _ (each_passes (λ (j : ℕ). eqb (get_or b (unused_at + j) 0) 0) n e k lt)

module _ (s : State) (g : GoodState s) where
  fits : (t : ℕ) → t < task_count → TaskFits (task_at s t)
  fits t lt = task_fits s.header (task_at s t) g.header (g.task t lt)

  -- section k of its buffer
  section_at : (k : ℕ) → k < length (sections s) → Has (encoded s) (0 + offset lengths k) (get_or (sections s) k [])
  unfolding encoded
  section_at k lt = section_of state_length lengths (sections s) (long s g.values.cells.flags g.values.cells.outputs) (omega arith) k lt

  -- what is behind them
  encoded_zero : (k : ℕ) → unused_at ≤ k → k < state_length → get_or (encoded s) k 0 ≡ 0
  unfolding encoded
  encoded_zero k low high = unused_of state_length lengths (sections s) (long s g.values.cells.flags g.values.cells.outputs) (omega arith) k low high

  pub decode_encode : decoded (encoded s) ≡ s
  unfolding decoded
  decode_encode =
      let l : List ℕ = encoded s in
      let v = s.values in
      let c = g.values.cells in
      let variables = variables_back l variables_at v.cells.variables c.variables c.signed (section_at 0 (omega arith)) in
      let flags = levels_back l flags_at v.cells.flags c.flags (section_at 1 (omega arith)) in
      let outputs = levels_back l outputs_at v.cells.outputs c.outputs (section_at 2 (omega arith)) in
      let header = header_back l header_at s.header g.header (section_at 4 (omega arith)) in
      let landings = landings_back l landings_at s.header s.landings g.header g.landings (section_at 5 (omega arith)) in
      let motion = motion_back l motion_at v.motion g.values.motion (section_at 6 (omega arith)) in
      let notes = notes_back l notes_at v.notes g.values.notes (section_at 7 (omega arith)) in
      let starts = starts_back l starts_at s (fits plc (omega arith)).start (fits mathematics (omega arith)).start (section_at 8 (omega arith)) in
      let first : (k : ℕ) → get_or (starts_in l starts_at) k 0 ≡ get_or ((task_at s plc).start ∷ (task_at s mathematics).start ∷ []) k 0 =
      λ k. ap (λ (ns : List ℕ). get_or ns k 0) starts in
      let t0 = task_back l (task_place bias) (task_at s bias) (header_in l header_at).start (ap (λ h. h.start) header ∙ sym g.first) (fits bias (omega arith))
      (section_at 9 (omega arith)) in
      let t1 = task_back l (task_place plc) (task_at s plc) (get_or (starts_in l starts_at) 0 0) (first 0) (fits plc (omega arith)) (section_at 10 (omega arith)) in
      let t2 = task_back l (task_place mathematics) (task_at s mathematics) (get_or (starts_in l starts_at) 1 0) (first 1) (fits mathematics (omega arith))
      (section_at 11 (omega arith)) in
      let tasks = (λ ι. t0 ι ∷ t1 ι ∷ t2 ι ∷ []) ∙ sym (three s.tasks no_task g.three) in
      λ ι.
      record {
        values = record {
          cells = record { variables = variables ι; flags = flags ι; outputs = outputs ι };
          motion = motion ι;
          notes = notes ι;
        };
        header = header ι;
        landings = landings ι;
        tasks = tasks ι;
      }

  -- ---- the bytes of a good state are a state

  layout_is_lem : layout_is (encoded s) ≡ true
  layout_is_lem =
      let e : le_number_at 1 (encoded s) layout_at ≡ layout_number =
      ap (λ (ns : List ℕ). get_or ns 0 0) (record_back layout_widths (layout_number ∷ []) (encoded s) layout_at (omega arith, refl) (section_at 3 (omega arith))) in
      rw e

  unused_zero : unused_bytes_zero (encoded s) unused_length ≡ true
  unused_zero = zeros_pass (encoded s) unused_length zeros
    where
      zeros : (k : ℕ) → k < unused_length → get_or (encoded s) (unused_at + k) 0 ≡ 0
      zeros k lt = encoded_zero (unused_at + k) (omega arith) (omega arith)

  pub good_state : is_state (encoded s) ≡ true
  unfolding is_state frame_is
  good_state = rw (eq-eqb (length (encoded s)) state_length (encoded_length s g), layout_is_lem, unused_zero, decode_encode, good_judged s g)

-- ---- a buffer read and written

module _ (b : List ℕ) (bytes : Bytes b) where
  length_variables : length (variables_in b variables_at) ≡ cells
  unfolding variables_in
  length_variables = length_table cells (λ (k : ℕ). signed_at b (variables_at + 4 * k))

  variables_fit : (i : ℕ) → SFits w32 (get_or (variables_in b variables_at) i (pos 0))
  unfolding variables_in
  variables_fit i =
      by i cells
      (λ c. subst (SFits w32) (sym (get_or_table cells (λ (k : ℕ). signed_at b (variables_at + 4 * k)) (pos 0) i c)) (signed_fits b (variables_at + 4 * i) bytes))
      (λ c.
      let long = length_variables in
      subst (SFits w32) (sym (get_or-eq_default (variables_in b variables_at) (pos 0) {n = i} (omega arith))) (record { sfits = omega arith }))

  shaped : Shaped (decoded b)
  unfolding decoded
  shaped =
      record {
        variables = length_variables;
        signed = variables_fit;
        flags = levels_long b flags_at;
        outputs = levels_long b outputs_at;
        landings = words_count most_landings b landings_at;
        position = signed_fits b motion_at bytes;
        three = refl;
        stack = stacks;
        first = refl;
      }
    where
      stacks : (t : ℕ) → t < task_count → length (task_at (decoded b) t).stack ≡ most_depth
      stacks zero l = words_count most_depth b (task_place bias + task_part 3)
      stacks (suc zero) l = words_count most_depth b (task_place plc + task_part 3)
      stacks (suc (suc zero)) l = words_count most_depth b (task_place mathematics + task_part 3)
      stacks (suc (suc (suc t))) l = absurd (omega arith)

  -- the layout number, where it is this release's
  layout_has : layout_is b ≡ true → Has b layout_at layout_bytes
  layout_has e =
      subst (λ (n : ℕ). Has b layout_at (record_bytes layout_widths (n ∷ []))) (eqb-true (le_number_at 1 b layout_at) layout_number e)
      (record_has layout_widths b layout_at bytes)

  module _ (e : is_state b ≡ true) where
    -- what 16 tests of the buffer itself, and of what it is read as
    record Passed : Type 0 where
      long : length b ≡ state_length
      layout : layout_is b ≡ true
      unused : unused_bytes_zero b unused_length ≡ true
      state : state_is (decoded b) ≡ true

    passed : Passed
    unfolding is_state frame_is
    passed =
        let r1 = both (eqb (length b) state_length) _ e in
        let r2 = both (layout_is b && unused_bytes_zero b unused_length) (state_is (decoded b)) r1.1 in
        let r3 = both (layout_is b) (unused_bytes_zero b unused_length) r2.0 in
        record { long = eqb-true (length b) state_length r1.0; layout = r3.0; unused = r3.1; state = r2.1 }

    -- a state with another layout number is none
    pub own_layout : le_number_at 1 b layout_at ≡ layout_number
    own_layout = eqb-true (le_number_at 1 b layout_at) layout_number passed.layout

    pub state_good : GoodState (decoded b)
    state_good = judged_good (decoded b) shaped passed.state

    pub encode_decode : encoded (decoded b) ≡ b
    unfolding encoded decoded
    encode_decode =
        rebuilt state_length lengths (sections (decoded b)) (long (decoded b) shaped.flags shaped.outputs) (omega arith) b passed.long
        (part (variables_has b variables_at bytes)
        (part (levels_has b flags_at)
        (part (levels_has b outputs_at)
        (part (layout_has passed.layout)
        (part (record_has header_widths b header_at bytes)
        (part (words_has most_landings b landings_at bytes)
        (part (motion_has b motion_at bytes)
        (part (record_has notes_widths b notes_at bytes)
        (part (record_has start_widths b starts_at bytes)
        (part (task_has b (task_place bias) (header_in b header_at).start bytes)
        (part (task_has b (task_place plc) (get_or (starts_in b starts_at) 0 0) bytes)
        (part (task_has b (task_place mathematics) (get_or (starts_in b starts_at) 1 0) bytes)
        end))))))))))))
        (λ k low high.
        (let q : k ≡ unused_at + (k - unused_at) = omega arith in ap (λ (j : ℕ). get_or b j 0) q)
        ∙ passed_zeros b unused_length passed.unused (k - unused_at) (omega arith))

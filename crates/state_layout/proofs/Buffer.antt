-- The whole buffer by its sections: each has its length, so a buffer into which all are put, and zeros behind them, is the state's.
use native.Mathlib.Omega.{arith}
use mathlib.Core.Path.{◌≡◌, refl, sym}
use mathlib.Core.List.{List, [], ◌∷◌}
use Prim.Native.Nat.{ℕ, ◌+◌}
use lib.ListN.{length, replicate}
use Rattle.limits.specs.Limits.{bias, plc, mathematics, most_landings, cells, state_length}
use Rattle.image_header.specs.Numbers.{numbers_of}
use Rattle.num_le.specs.LittleEndian.{Bytes}
use Rattle.state_bytes.specs.Bytes.{puts}
use Rattle.state_bytes.proofs.Puts.{puts_same, stays_behind}
use Rattle.state_sections.specs.Sections.{joined, total}
use Rattle.state_sections.proofs.Sections.{lens, length_joined, length_filled, Chain, chained, written_over}
use Rattle.state_sections.proofs.Records.{record_long}
use Rattle.state.specs.State.{task_at}
use Rattle.state.specs.declared.State.{State}
use Rattle.state_layout.specs.Codecs.{variables_length, variable_bytes, levels_length, layout_bytes, header_bytes, landing_bytes, landings_in}
use Rattle.state_layout.specs.Codecs.{layout_number, layout_widths, header_widths, motion_widths, motion_record, notes_widths, start_widths}
use Rattle.state_layout.specs.Layout.{lengths, sections, landings_at, unused_at, unused_length, encoded}
use Rattle.state_layout.proofs.Codecs.{variables_long, words_long, words_has, task_long}

module _ (s : State) (flags : length s.values.cells.flags ≡ cells) (outputs : length s.values.cells.outputs ≡ cells) where
  -- each section has its length
  pub long : lens (sections s) ≡ lengths
  long =
      let v = s.values in
      let variables = variables_long v.cells.variables in
      let layout = record_long layout_widths (layout_number ∷ []) refl in
      let header = record_long header_widths (numbers_of s.header) refl in
      let landings = words_long most_landings s.landings in
      let motion = record_long motion_widths (motion_record v.motion) refl in
      let notes = record_long notes_widths (v.notes.level ∷ v.notes.moved ∷ []) refl in
      let starts = record_long start_widths ((task_at s plc).start ∷ (task_at s mathematics).start ∷ []) refl in
      let t0 = task_long (task_at s bias) in
      let t1 = task_long (task_at s plc) in
      let t2 = task_long (task_at s mathematics) in
      λ ι.
      variables ι ∷ flags ι ∷ outputs ι ∷ layout ι ∷ header ι ∷ landings ι ∷ motion ι ∷ notes ι ∷ starts ι ∷ t0 ι ∷ t1 ι ∷ t2 ι ∷ []

  -- any buffer into which every section is put, and zeros behind them
  pub encoded_put : (b l l' : List ℕ) → length b ≡ state_length → Chain 0 0 lengths (sections s) b l → l' ≡ puts l unused_at (replicate unused_length 0)
      → l' ≡ encoded s
  unfolding encoded
  encoded_put b l l' = written_over state_length lengths (sections s) long (omega arith) b l l'

  -- the sections before the landing list
  abbrev early_lengths : List ℕ
  early_lengths = variables_length ∷ levels_length ∷ levels_length ∷ total layout_widths ∷ total header_widths ∷ []

  abbrev early : List (List ℕ)
  early =
      variable_bytes s.values.cells.variables
      ∷ s.values.cells.flags
      ∷ s.values.cells.outputs
      ∷ layout_bytes
      ∷ header_bytes s.header
      ∷ []

  early_long : lens early ≡ early_lengths
  early_long =
      let variables = variables_long s.values.cells.variables in
      let layout = record_long layout_widths (layout_number ∷ []) refl in
      let header = record_long header_widths (numbers_of s.header) refl in
      λ ι.
      variables ι ∷ flags ι ∷ outputs ι ∷ layout ι ∷ header ι ∷ []

  -- they leave the landing list of the buffer as it is, so it is as if it were put again
  pub landings_stay : (b l : List ℕ) → Bytes b → s.landings ≡ landings_in b landings_at → Chain 0 0 early_lengths early b l
      → l ≡ puts l landings_at (landing_bytes s.landings)
  landings_stay b l bytes e c =
      let q = chained c early_long in
      let n = length_joined early early_lengths early_long in
      sym (puts_same (landing_bytes s.landings) l landings_at
      (rw (e, q) (stays_behind (joined early) b (0 + 0) _ landings_at (omega arith) (words_has most_landings b landings_at bytes))))

  pub encoded_long : length (encoded s) ≡ state_length
  unfolding encoded
  encoded_long = length_filled state_length lengths (sections s) long (omega arith)

-- The law of every command, row by row: the row's flow and ranges are computed, and the form of the effect does the rest.
use Prim.Native.Nat.{ℕ, ◌*◌, ◌≤◌}
use mathlib.Core.Path.{◌≡◌, refl, sym, ap, subst, ◌∙◌}
use mathlib.Core.Bool.{true, ◌&&◌, ◌||◌, not, cond}
use native.Mathlib.Omega.{arith}
use mathlib.Core.List.{List}
use lib.Dec.{eqb, leb}
use lib.ListN.{get_or}
use lib.IntN.{ℤ, pos, negsuc, ◌+ℤ◌, ◌-ℤ◌, ◌*ℤ◌}
use borrow.Author.Tests.{leb-true}
use mir.Syntax.{w32}
use Rattle.limits.specs.Limits.{bias, plc, mathematics, most_level, most_speed, most_ramp, most_time, longest_wait}
use Rattle.num_arith.specs.Wrap.{wrap}
use Rattle.num_arith.specs.Ops.{holds, bit_at, eq_z}
use Rattle.num_arith.proofs.Cut.{wrap_fits}
use Rattle.logic.proofs.Choice.{clash, both}
use Rattle.command_table.specs.Rows.{rows, row_in, row_of}
use Rattle.command_operands.specs.declared.Command.{Command}
use Rattle.command_judge.specs.BlockFault.{in_range}
use Rattle.state.specs.State.{with_flag, with_output, first_axis, axis_of, with_mark, with_position, with_speed, with_acceleration, with_deceleration}
use Rattle.state.proofs.Setters.{flag_good, output_good, good_axis, mark_good, position_good, speed_good, acceleration_good, deceleration_good}
use Rattle.state.specs.declared.Values.{Values}
use Rattle.machine.specs.Inputs.{input_at}
use Rattle.machine.specs.declared.Context.{Context}
use Rattle.machine.specs.Effect.{CommandEffect, effect_row, effect_of, arrived, compares, flag, output, bit, is_set, variable, within, natural, waits}
use Rattle.machine.specs.Effect.{time_of, flag_number, effect_rows}
use Rattle.machine.specs.StepRule.{Reason}
use Rattle.machine.specs.Allows.{Allows}
use Rattle.machine.specs.declared.Request.TheVariants.{MoveTo, MoveBy, Forward, Backward}
use Rattle.machine.specs.declared.Outcome.TheVariants.{Jump, Call, Return, Start, Restart, End}
use Rattle.logic.proofs.Lists.{All, end, ◌&◌}
use Rattle.machine.proofs.Rows.EachRow.{Of, effect_of_lem}
use Rattle.machine.proofs.Rows.InRange.{bit_level, level_level, up_to_lem, small_fits}
use Rattle.machine.proofs.Rows.Waits.{rounded}
use Rattle.machine.proofs.Rows.Forms.{Ranged, Lawful, Law, simply, either, flows_law, stop_law, sets_law, axis_law, assigns_law, jump_law, moves_law}
use Rattle.machine.proofs.Rows.Forms.{stays_law, waits_lawful, parameter_law, divides_law, waits_variable_law, lands_law}

-- what is shown of an effect, at a command of its code
abbrev pub Always : List ℕ → Command → CommandEffect → Type 0
Always ls c d = (g : Context) (v : Values) → Law ls c.code c g v (d g c v)

at : (ls : List ℕ) (k : ℕ) (d : CommandEffect) → ((c : Command) → c.code ≡ k → (g : Context) (v : Values) → Law ls k c g v (d g c v))
    → Of (Always ls) (effect_row k d)
at ls k d h c e g v = subst (λ (n : ℕ). Law ls n c g v (d g c v)) (sym e) (h c e g v)

-- the ranges of a command whose code is known
ranges_at : (k count : ℕ) (c : Command) → c.code ≡ k → Ranged count c → in_range (row_of k).ranges count c ≡ true
ranges_at k count c e f = subst (λ (n : ℕ). in_range (row_of n).ranges count c ≡ true) e f

-- ---- what single rows need

-- 51
ends : (ls : List ℕ) (c : Command) (g : Context) (v : Values) → Lawful ls 0x51 c g v (cond (eqb c.x 0) Restart End)
unfolding row_of row_in rows
ends ls c g v =
    either ls 0x51 c g v (eqb c.x 0) Restart End (λ e. simply ls 0x51 c g v Restart refl (rw e Allows.restart)) (λ e. simply ls 0x51 c g v End refl (rw e Allows.end))

-- 59 and 5A: the longest times
twice : (word : ℕ) → word ≤ 65535 → 2 * word ≤ longest_wait
twice word l = omega arith

short : (model : ℕ) (z : ℤ) → within 0 most_time z ≡ true → time_of model (natural z) ≤ longest_wait
short model (negsuc n) e = clash (sym e)
short model (pos n) e = let b = leb-true n most_time (both (leb 0 n) (leb n most_time) e).1 in let l = (rounded model n).low in omega arith

-- 85: the divisor is not 0
not_zero : (z : ℤ) → not (eq_z z (pos 0)) ≡ true → z ≡ pos 0 → ⊥
not_zero z e i = clash (sym e ∙ ap (λ (n : ℤ). not (eq_z n (pos 0))) i)

-- ---- the rows

rows_keep : (inputs ls : List ℕ) → All (Of (Always ls)) (effect_rows inputs ls)
unfolding row_of row_in rows
rows_keep inputs ls =
    at ls 0x00 _ (λ c e g v. moves_law ls 0x00 c g v MoveTo refl Allows.over Allows.stay) &
    at ls 0x01 _ (λ c e g v. moves_law ls 0x01 c g v MoveBy refl Allows.over Allows.stay) &
    at ls 0x03 _ (λ c e g v. moves_law ls 0x03 c g v Forward refl Allows.over Allows.stay) &
    at ls 0x04 _ (λ c e g v. moves_law ls 0x04 c g v Backward refl Allows.over Allows.stay) &
    at ls 0x0E _ (λ c e g v. sets_law ls 0x0E c g v (with_mark 1 v) refl Allows.on (λ _ _ d. mark_good v d 1 (omega arith))) &
    at ls 0x0F _ (λ c e g v. stop_law ls 0x0F c g v c.x (axis_of first_axis v).deceleration Allows.on) &
    at ls 0x1F _ (λ c e g v. stop_law ls 0x1F c g v c.x c.word Allows.on) &
    at ls 0x20 _ (λ c e g v. axis_law ls 0x20 c g v (with_position c.value) Allows.on (λ _ f d. position_good _ (good_axis v d first_axis) c.value f.value)) &
    at ls 0x21 _ (λ c e g v. axis_law ls 0x21 c g v (with_speed c.word) Allows.on
    (λ n f d. speed_good _ (good_axis v d first_axis) c.word (up_to_lem most_speed c.word (ranges_at 0x21 n c e f.ranges)))) &
    at ls 0x22 _ (λ c e g v. axis_law ls 0x22 c g v (with_acceleration c.word) Allows.on
    (λ n f d. acceleration_good _ (good_axis v d first_axis) c.word (up_to_lem most_ramp c.word (ranges_at 0x22 n c e f.ranges)))) &
    at ls 0x23 _ (λ c e g v. axis_law ls 0x23 c g v (with_deceleration c.word) Allows.on
    (λ n f d. deceleration_good _ (good_axis v d first_axis) c.word (up_to_lem most_ramp c.word (ranges_at 0x23 n c e f.ranges)))) &
    at ls 0x30 _ (λ c e g v. axis_law ls 0x30 c g v (with_position (variable v c.x)) Allows.on
    (λ _ _ d. position_good _ (good_axis v d first_axis) (variable v c.x) (d.cells.signed c.x))) &
    at ls 0x31 _ (λ c e g v. parameter_law ls 0x31 c g v most_speed with_speed Allows.on Allows.halt speed_good (Reason.speed e)) &
    at ls 0x32 _ (λ c e g v. parameter_law ls 0x32 c g v most_ramp with_acceleration Allows.on Allows.halt acceleration_good (Reason.acceleration e)) &
    at ls 0x33 _ (λ c e g v. parameter_law ls 0x33 c g v most_ramp with_deceleration Allows.on Allows.halt deceleration_good (Reason.deceleration e)) &
    at ls 0x40 _ (λ c e g v. assigns_law ls 0x40 c g v (axis_of first_axis v).position Allows.on (λ _ _ d. (good_axis v d first_axis).position)) &
    at ls 0x41 _ (λ c e g v. assigns_law ls 0x41 c g v (pos (axis_of first_axis v).speed) Allows.on
    (λ _ _ d. small_fits most_speed _ (omega arith) (good_axis v d first_axis).speed)) &
    at ls 0x42 _ (λ c e g v. assigns_law ls 0x42 c g v (pos (axis_of first_axis v).acceleration) Allows.on
    (λ _ _ d. small_fits most_ramp _ (omega arith) (good_axis v d first_axis).acceleration)) &
    at ls 0x43 _ (λ c e g v. assigns_law ls 0x43 c g v (pos (axis_of first_axis v).deceleration) Allows.on
    (λ _ _ d. small_fits most_ramp _ (omega arith) (good_axis v d first_axis).deceleration)) &
    at ls 0x50 _ (λ c e g v. sets_law ls 0x50 c g v v refl Allows.on (λ _ _ d. d)) &
    at ls 0x51 _ (λ c e g v. flows_law ls 0x51 c g v (cond (eqb c.x 0) Restart End) (ends ls c g v)) &
    at ls 0x52 _ (λ c e g v. flows_law ls 0x52 c g v (Call c.word) (simply ls 0x52 c g v (Call c.word) refl Allows.call)) &
    at ls 0x53 _ (λ c e g v. flows_law ls 0x53 c g v Return (simply ls 0x53 c g v Return refl Allows.return)) &
    at ls 0x54 _ (λ c e g v. flows_law ls 0x54 c g v (Start plc c.word) (simply ls 0x54 c g v (Start plc c.word) refl Allows.start)) &
    at ls 0x55 _ (λ c e g v. flows_law ls 0x55 c g v (Jump c.word) (simply ls 0x55 c g v (Jump c.word) refl Allows.jump)) &
    at ls 0x56 _ (λ c e g v. lands_law ls 0x56 c g v Jump (λ _. refl) (λ _ m. Allows.land m) Allows.astray (Reason.jumping e)) &
    at ls 0x57 _ (λ c e g v. flows_law ls 0x57 c g v (Start bias c.word) (simply ls 0x57 c g v (Start bias c.word) refl Allows.start)) &
    at ls 0x58 _ (λ c e g v. stays_law ls 0x58 c g v (arrived g v.notes) Allows.over Allows.stay) &
    at ls 0x59 _ (λ c e g v. flows_law ls 0x59 c g v (waits (2 * c.word) g)
    (waits_lawful ls 0x59 c g v (2 * c.word) refl Allows.over (λ _ _. Allows.stay) (λ _ _ f. twice c.word f.word))) &
    at ls 0x5A _ (λ c e g v. waits_variable_law ls 0x5A c g v refl Allows.over (λ _ _. Allows.stay) Allows.refuse (Reason.waiting e)
    (λ _. short g.drive.model (variable v c.x))) &
    at ls 0x5B _ (λ c e g v. lands_law ls 0x5B c g v (Start bias) (λ _. refl) (λ _ m. Allows.begin m) Allows.unbegun (Reason.starting e)) &
    at ls 0x60 _ (λ c e g v. sets_law ls 0x60 c g v (with_flag c.x c.y v) refl Allows.on
    (λ n f d. flag_good v d c.x c.y (leb-true c.y most_level (ranges_at 0x60 n c e f.ranges)))) &
    at ls 0x61 _ (λ c e g v. jump_law ls 0x61 c g v (compares c.y (flag v c.x) c.z) c.word Allows.branch Allows.pass) &
    at ls 0x62 _ (λ c e g v. sets_law ls 0x62 c g v (with_flag c.x (flag v c.y) v) refl Allows.on
    (λ _ _ d. flag_good v d c.x (flag v c.y) (d.cells.flag c.y))) &
    at ls 0x63 _ (λ c e g v. sets_law ls 0x63 c g v (with_flag c.x (input_at inputs c.y) v) refl Allows.on
    (λ _ _ d. flag_good v d c.x (input_at inputs c.y) (level_level (get_or inputs c.y 0)))) &
    at ls 0x64 _ (λ c e g v. sets_law ls 0x64 c g v (with_flag c.x (output v c.y) v) refl Allows.on
    (λ _ _ d. flag_good v d c.x (output v c.y) (d.cells.output c.y))) &
    at ls 0x65 _ (λ c e g v. sets_law ls 0x65 c g v (with_flag c.x (bit (is_set (flag v c.y) && is_set (flag v c.z))) v) refl Allows.on
    (λ _ _ d. flag_good v d c.x (bit (is_set (flag v c.y) && is_set (flag v c.z))) (bit_level (is_set (flag v c.y) && is_set (flag v c.z))))) &
    at ls 0x66 _ (λ c e g v. sets_law ls 0x66 c g v (with_flag c.x (bit (is_set (flag v c.y) || is_set (flag v c.z))) v) refl Allows.on
    (λ _ _ d. flag_good v d c.x (bit (is_set (flag v c.y) || is_set (flag v c.z))) (bit_level (is_set (flag v c.y) || is_set (flag v c.z))))) &
    at ls 0x67 _ (λ c e g v. sets_law ls 0x67 c g v (with_flag c.x (bit (not (eqb (flag v c.y) (flag v c.z)))) v) refl Allows.on
    (λ _ _ d. flag_good v d c.x (bit (not (eqb (flag v c.y) (flag v c.z)))) (bit_level (not (eqb (flag v c.y) (flag v c.z)))))) &
    at ls 0x68 _ (λ c e g v. sets_law ls 0x68 c g v (with_flag c.x (bit (not (is_set (flag v c.y)))) v) refl Allows.on
    (λ _ _ d. flag_good v d c.x (bit (not (is_set (flag v c.y)))) (bit_level (not (is_set (flag v c.y)))))) &
    at ls 0x6E _ (λ c e g v. jump_law ls 0x6E c g v (compares c.z (bit (bit_at w32 c.y (variable v c.x))) 0) c.word Allows.branch Allows.pass) &
    at ls 0x70 _ (λ c e g v. jump_law ls 0x70 c g v (compares c.y (input_at inputs c.x) c.z) c.word Allows.branch Allows.pass) &
    at ls 0x71 _ (λ c e g v. jump_law ls 0x71 c g v (compares c.y (output v c.x) c.z) c.word Allows.branch Allows.pass) &
    at ls 0x72 _ (λ c e g v. sets_law ls 0x72 c g v (with_output c.x c.y v) refl Allows.on
    (λ n f d. output_good v d c.x c.y (leb-true c.y most_level (ranges_at 0x72 n c e f.ranges)))) &
    at ls 0x73 _ (λ c e g v. sets_law ls 0x73 c g v (with_output c.x (flag v c.y) v) refl Allows.on
    (λ _ _ d. output_good v d c.x (flag v c.y) (d.cells.flag c.y))) &
    at ls 0x80 _ (λ c e g v. assigns_law ls 0x80 c g v c.value Allows.on (λ _ f _. f.value)) &
    at ls 0x81 _ (λ c e g v. jump_law ls 0x81 c g v (holds c.y (variable v c.x) c.value) c.word Allows.branch Allows.pass) &
    at ls 0x82 _ (λ c e g v. assigns_law ls 0x82 c g v (wrap w32 (variable v c.y +ℤ c.value)) Allows.on
    (λ _ _ _. wrap_fits w32 (variable v c.y +ℤ c.value))) &
    at ls 0x83 _ (λ c e g v. assigns_law ls 0x83 c g v (wrap w32 (variable v c.y -ℤ c.value)) Allows.on
    (λ _ _ _. wrap_fits w32 (variable v c.y -ℤ c.value))) &
    at ls 0x84 _ (λ c e g v. assigns_law ls 0x84 c g v (wrap w32 (variable v c.y *ℤ c.value)) Allows.on
    (λ _ _ _. wrap_fits w32 (variable v c.y *ℤ c.value))) &
    at ls 0x85 _ (λ c e g v. divides_law ls 0x85 c g v (variable v c.y) c.value Allows.on Allows.halt
    (λ z n f. absurd (not_zero c.value (ranges_at 0x85 n c e f) z))) &
    at ls 0x86 _ (λ c e g v. assigns_law ls 0x86 c g v (wrap w32 (pos (flag_number v.cells.flags c.y c.z))) Allows.on
    (λ _ _ _. wrap_fits w32 (pos (flag_number v.cells.flags c.y c.z)))) &
    at ls 0x88 _ (λ c e g v. assigns_law ls 0x88 c g v (variable v c.y) Allows.on (λ _ _ d. d.cells.signed c.y)) &
    at ls 0x89 _ (λ c e g v. jump_law ls 0x89 c g v (holds c.y (variable v c.x) (variable v c.z)) c.word Allows.branch Allows.pass) &
    at ls 0x8A _ (λ c e g v. assigns_law ls 0x8A c g v (wrap w32 (variable v c.y +ℤ variable v c.z)) Allows.on
    (λ _ _ _. wrap_fits w32 (variable v c.y +ℤ variable v c.z))) &
    at ls 0x8B _ (λ c e g v. assigns_law ls 0x8B c g v (wrap w32 (variable v c.y -ℤ variable v c.z)) Allows.on
    (λ _ _ _. wrap_fits w32 (variable v c.y -ℤ variable v c.z))) &
    at ls 0x8C _ (λ c e g v. assigns_law ls 0x8C c g v (wrap w32 (variable v c.y *ℤ variable v c.z)) Allows.on
    (λ _ _ _. wrap_fits w32 (variable v c.y *ℤ variable v c.z))) &
    at ls 0x8D _ (λ c e g v. divides_law ls 0x8D c g v (variable v c.y) (variable v c.z) Allows.on Allows.halt (λ z _ _. Reason.divisor e z)) &
    at ls 0x90 _ (λ c e g v. flows_law ls 0x90 c g v (Start mathematics c.word) (simply ls 0x90 c g v (Start mathematics c.word) refl Allows.start)) &
    end

-- the law of every command that is carried
pub every_law : (inputs ls : List ℕ) (g : Context) (c : Command) (v : Values) → (row_of c.code).carried ≡ true
    → Law ls c.code c g v (effect_of inputs ls g c v)
unfolding effect_of
every_law inputs ls g c v n = effect_of_lem inputs ls (Always ls) (rows_keep inputs ls) c n g v

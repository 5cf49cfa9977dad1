-- `state_encode::put_variables` meets its contract: after k turns the bytes of k variables are put.
use Prim.Native.Nat.{ℕ, ◌+◌, ◌*◌}
use mathlib.Core.Path.{refl, ap, ◌∙◌}
use native.Mathlib.Omega.{arith}
use lib.ListN.{get_or}
use lib.IntN.{ℤ, pos}
use mir.Syntax.{w32}
use mir.Facts.{to_z-of_z}
use Rattle.limits.specs.Limits.{cells}
use Rattle.state_bytes.specs.Bytes.{puts, signed_bytes}
use Rattle.state_bytes.proofs.Puts.{puts_long, concatenated_none, concatenated_more, concatenated_all}
use Rattle.state_layout.specs.Codecs.{variable_bytes}
use Rattle.state_encode.proofs.put_variables.Goals as goal

pub loop-k-init : goal.loop-k-init
loop-k-init c = concatenated_none _ _ _

pub put_signed-requires : goal.put_signed-requires
put_signed-requires c =
    let l = c.loop-k in
    omega (arith, c.requires, puts_long l.b c.args.b.now c.args.at _ l.invariant)

pub loop-k-preserved : goal.loop-k-preserved
loop-k-preserved c =
    let l = c.loop-k in
    let z = to_z-of_z {w = w32} {z = get_or c.args.variables.now l.k (pos 0)} (record { sfits = omega arith }) in
    c.put_signed.ensures
    ∙ ap (λ (y : ℤ). puts l.b (c.args.at + 4 * l.k) (signed_bytes y)) z
    ∙ concatenated_more (λ (j : ℕ). signed_bytes (get_or c.args.variables.now j (pos 0))) 4 (λ j. refl) c.args.b.now c.args.at l.k l.b l.invariant

pub returns : goal.returns
unfolding variable_bytes
returns c =
    let l = c.loop-k in
    concatenated_all (λ (j : ℕ). signed_bytes (get_or c.args.variables.now j (pos 0))) c.args.b.now c.args.at l.k cells l.b (omega arith) (omega arith)
    l.invariant

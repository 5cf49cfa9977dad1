-- `image_writer::put_numbers` meets its contract. The loop's invariant: the numbers passed stand at the front.
use mathlib.Core.Path.{◌≡◌, refl, ap, ◌∙◌}
use mathlib.Core.List.{◌++◌}
use Prim.Native.Nat.{◌<◌}
use native.Mathlib.Omega.{arith}
use native.Mathlib.Numerals.{add-one}
use lib.ListN.{length}
use lib.Seq.{length-sets}
use Rattle.image_header.specs.Rows.{row_count}
use Rattle.image_writer.specs.Writer.{words_of, first_numbers}
use Rattle.image_writer.proofs.HeaderBytes.{one_more, room, stored}
use Rattle.image_writer.proofs.put_numbers.Goals as goal

pub loop-row-init : goal.loop-row-init
unfolding first_numbers
loop-row-init c = (refl, refl)

pub put_number-at-requires : goal.put_number-at-requires
put_number-at-requires c =
    let l = c.loop-row in
    let ns = c.args.numbers ++ words_of c.args.landings.now in
    let u : l.row < row_count = omega arith in
    let e : length l.out ≡ length c.args.out.now = ap length l.invariant.1 ∙ length-sets c.args.out.now 0 (first_numbers ns l.row) in
    let r = room ns l.row row_count u in
    let i = l.invariant.0 in
    let h = c.requires.row_count_in_bounds in
    record {
      row_in_range = u;
      number_in_range = c.requires.have_forms l.row u;
      row_in_bounds = omega arith;
    }

pub loop-row-preserved : goal.loop-row-preserved
loop-row-preserved c =
    let l = c.loop-row in
    let ns = c.args.numbers ++ words_of c.args.landings.now in
    let called = c.put_number-at in
    let i = l.invariant.0 in (
      (let m = one_more ns l.row in let q = called.ensures.value in rw (add-one l.row) (omega arith)),
      stored ns c.args.out.now l.out called.new.out l.at l.row l.invariant.0 l.invariant.1 called.ensures.out_after,
    )

pub shape_of-out : goal.shape_of-out
shape_of-out c =
    let ns = c.args.numbers ++ words_of c.args.landings.now in
    ap length c.loop-row.invariant.1 ∙ length-sets c.args.out.now 0 (first_numbers ns c.loop-row.row)

pub returns : goal.returns
returns c =
    let l = c.loop-row in
    let h : l.row ≡ row_count = omega arith in
    record {
      value = rw h at l.invariant.0;
      out_after = rw h at l.invariant.1;
    }

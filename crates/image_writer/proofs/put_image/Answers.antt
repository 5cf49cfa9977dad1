-- The numbers, and the blocks right behind them, are one run of stores from the front.
use Rattle.std.proofs.Common.{◌≡◌, ◌++◌, ap, ◌∙◌, length, arith}
use lib.Seq.{length-sets}
use Rattle.image_header.specs.Rows.{row_count}
use Rattle.image_writer.specs.Writer.{words_of, first_numbers}
use Rattle.image_writer.proofs.Stores.{filled}
use Rattle.image_writer.proofs.HeaderBytes.{image_length, whole}
use Rattle.image_writer.proofs.put_image.Goals as goal

pub put_numbers-at-requires-clause-row_count_in_bounds : goal.put_numbers-at-requires-clause-row_count_in_bounds
put_numbers-at-requires-clause-row_count_in_bounds c =
    let h = c.requires.blocks_in_bounds in
    omega (arith, image_length (c.args.numbers ++ words_of c.args.landings.now) c.args.blocks.now)

pub overflow_add-end : goal.overflow_add-end
overflow_add-end c =
    let ns = c.args.numbers ++ words_of c.args.landings.now in
    let called = c.put_numbers-at in
    let at = called.ensures.value in
    let h = c.requires.blocks_in_bounds in
    let e : length called.new.out ≡ length c.args.out.now =
    ap length called.ensures.out_after ∙ length-sets c.args.out.now 0 (first_numbers ns row_count) in
    omega (arith, image_length ns c.args.blocks.now)

pub slice_bounds-copy_from_slice-end : goal.slice_bounds-copy_from_slice-end
slice_bounds-copy_from_slice-end c =
    let ns = c.args.numbers ++ words_of c.args.landings.now in
    let called = c.put_numbers-at in
    let at = called.ensures.value in
    let h = c.requires.blocks_in_bounds in
    let e : length called.new.out ≡ length c.args.out.now =
    ap length called.ensures.out_after ∙ length-sets c.args.out.now 0 (first_numbers ns row_count) in
    omega (arith, image_length ns c.args.blocks.now)

pub returns : goal.returns
returns c =
    let ns = c.args.numbers ++ words_of c.args.landings.now in
    let called = c.put_numbers-at in
    let at = called.ensures.value in
    let h = c.requires.blocks_in_bounds in
    let e : length called.new.out ≡ length c.args.out.now =
    ap length called.ensures.out_after ∙ length-sets c.args.out.now 0 (first_numbers ns row_count) in
    let l = image_length ns c.args.blocks.now in
    filled called.new.out c.args.blocks.now c.copy_from_slice.new.self called.result _ (omega arith) (omega arith) c.copy_from_slice.ensures.after
    ∙ whole ns c.args.out.now called.new.out c.args.blocks.now called.result at called.ensures.out_after h

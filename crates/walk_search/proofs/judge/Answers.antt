-- `judge` meets its contract: 13, the header and the landing blocks, then the blocks and the walks.
use mathlib.Core.Path.{sym}
use borrow.Author.Tests.{lt-ltb}
use lib.ListN.{length}
use lib.Seq.{length-take-le}
use Rattle.limits.specs.Limits.{marks_length}
use Rattle.walk.specs.Verdict.{verdict_of}
use Rattle.walk_search.proofs.PartByPart.{refused_image, landings_fit, walks_bounded, judged_image}
use Rattle.walk_search.proofs.judge.Goals as goal

pub returns-then-marks-lt-MARKS_LENGTH-clause-value : goal.returns-then-marks-lt-MARKS_LENGTH-clause-value
unfolding verdict_of
returns-then-marks-lt-MARKS_LENGTH-clause-value c = rw (lt-ltb (length c.args.marks.now) marks_length c.if-marks-lt-MARKS_LENGTH.true)

pub returns-in-Err-clause-value : goal.returns-in-Err-clause-value
returns-in-Err-clause-value c = refused_image c.args.image.now _ c.in-Err.fault (sym c.in-Err.ensures.value) c.if-marks-lt-MARKS_LENGTH.false

pub slice_bounds-landings-end : goal.slice_bounds-landings-end
slice_bounds-landings-end c = let read = c.in-Ok.ensures in landings_fit c.args.image.now c.in-Ok.read _ (sym read.value) read.landings_after

pub slice_bounds-program-end : goal.slice_bounds-program-end
slice_bounds-program-end c =
    let read = c.in-Ok.ensures in
    sym (length-take-le _ _ (landings_fit c.args.image.now c.in-Ok.read _ (sym read.value) read.landings_after))

pub invariant_of-program : goal.invariant_of-program
invariant_of-program c =
    let read = c.in-Ok.ensures in record { bounds = walks_bounded c.args.image.now c.in-Ok.read _ (sym read.value) read.landings_after }

pub returns-clause-value : goal.returns-clause-value
returns-clause-value c =
    let read = c.in-Ok.ensures in
    judged_image c.args.image.now c.in-Ok.read _ (sym read.value) read.landings_after _ _ _ c.part_of.ensures c.if-marks-lt-MARKS_LENGTH.false
    c.judge_blocks.ensures.value

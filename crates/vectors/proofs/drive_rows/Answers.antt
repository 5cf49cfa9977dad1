-- Of each kind there are at most 256 pins, so the sums fit.
use Rattle.std.proofs.Common.{arith}
use Rattle.drive_pins.specs.declared.PinKind.TheVariants.{Input, OutputWritten, OutputRead}
use Rattle.vectors.proofs.Counts.{at_most}
use Rattle.vectors.proofs.drive_rows.Goals as goal

pub overflow_add-result : goal.overflow_add-result
overflow_add-result g c =
    let d = c.args.d in
    omega (arith, c.in_ok-inputs.ensures, c.in_ok-written.ensures, at_most d Input 256, at_most d OutputWritten 256)

pub overflow_add-result-2 : goal.overflow_add-result-2
overflow_add-result-2 g c =
    let d = c.args.d in
    omega (
      arith,
      c.in_ok-inputs.ensures,
      c.in_ok-written.ensures,
      c.in_ok-read.ensures,
      at_most d Input 256,
      at_most d OutputWritten 256,
      at_most d OutputRead 256,
    )

-- A line ends at a line end alone.
use Rattle.std.proofs.Common.{ℕ, ◌+◌, refl, sym, ap, ◌∙◌, arith}
use Rattle.text_hex.specs.Lines.{lines_of}
use Rattle.text_hex.proofs.Lines.{ends, goes_on}
use Rattle.manual.proofs.examples.Goals as goal
use Rattle.manual.proofs.examples.Goals.{then-byte-eq-LINE_END+in_ok-show+in_ok-write_all+in_ok-example, else-byte-eq-LINE_END}

pub loop-i-init : goal.loop-i-init
unfolding lines_of
loop-i-init g c = record { begins = omega arith; few = omega arith; counted = refl }

pub loop-i-preserved : goal.loop-i-preserved
loop-i-preserved g c =
    let v = c.loop-i in
    let text = c.args.text.now in
    elim c.if-byte-eq-LINE_END.branch [
      | then-byte-eq-LINE_END+in_ok-show+in_ok-write_all+in_ok-example w ↦
          record {
            begins = omega arith;
            few = omega arith;
            counted = w.n-is ∙ ap (λ (k : ℕ). k + 1) v.invariant.counted ∙ sym (ends text v.i w.if-byte-eq-LINE_END.true);
          }
      | else-byte-eq-LINE_END w ↦
          record {
            begins = omega arith;
            few = omega arith;
            counted = w.n-is ∙ v.invariant.counted ∙ sym (goes_on text v.i w.if-byte-eq-LINE_END.false);
          }
    ]

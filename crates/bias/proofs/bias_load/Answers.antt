-- `bias::bias_load` meets its contract: 13, 16, then the image.
use Rattle.bias.proofs.ByTest.{marks_short, no_buffer, of_image, load_refused}
use Rattle.bias.specs.Load.{Load, load, judged_load}
use Rattle.walk.specs.Verdict.{verdict_of}
use lib.ListN.{length}
use mathlib.Core.List.{List}
use Prim.Native.Nat.{ℕ}
use mathlib.Core.Path.{◌≡◌, refl, sym, ap, ◌∙◌}
use Rattle.bias.proofs.bias_load.Goals as goal

pub returns-then-n-lt-MARKS_LENGTH : goal.returns-then-n-lt-MARKS_LENGTH
returns-then-n-lt-MARKS_LENGTH c =
    let a = c.args in
    let r = load_refused _ _ _ _ (marks_short a.image.now _ a.state.now c.if-n-lt-MARKS_LENGTH.true) c.verdict.ensures in
    record {
      value = r.0;
      state_after = r.1;
      after = record { long = refl; rest = λ k i. refl };
    }

pub returns-in_default : goal.returns-in_default
returns-in_default c =
    let a = c.args in
    let r = load_refused _ _ _ _ (no_buffer a.image.now _ a.state.now c.if-n-lt-MARKS_LENGTH.false c.in_default.ensures.cases) c.numbered.ensures in
    record {
      value = r.0;
      state_after = r.1;
      after = record { long = refl; rest = λ k i. refl };
    }

pub returns : goal.returns
returns c =
    let a = c.args in
    let w = c.in-Some.ensures.cases in
    let e = of_image a.image.now _ a.state.now c.if-n-lt-MARKS_LENGTH.false w.long in
    let l = c.load_image.ensures in
    let f : judged_load a.image.now _ c.in-Some.state.now ≡ load a.image.now _ a.state.now =
    ap (λ (b : List ℕ). judged_load a.image.now (verdict_of a.image.now (length a.marks.now)) b) w.same ∙ sym e in
    record {
      value = l.value ∙ ap (λ (m : Load). m.verdict) f;
      state_after = l.state_after ∙ ap (λ (m : Load). m.buffer) f;
      after = l.after;
    }

-- `bias::load_image` meets its contract, by the verdict.
use Rattle.bias.proofs.ByTest.{verdict_is, stays, begins}
use Rattle.bias_results.specs.Results.{verdict_for}
use Rattle.state_layout.specs.Layout.{encoded}
use Rattle.walk.specs.Verdict.{is_accepted}
use mathlib.Core.Path.{sym, ap, ◌∙◌}
use Rattle.bias.proofs.load_image.Goals as goal

pub returns-then-not-is_ok : goal.returns-then-not-is_ok
returns-then-not-is_ok c =
    let a = c.args in
    let j = c.judge-verdict in
    let refused = sym (ap is_accepted j.ensures.value) ∙ sym c.is_ok.ensures.value ∙ c.if-not-is_ok.true in
    record {
      value = c.verdict.ensures ∙ ap verdict_for j.ensures.value
          ∙ sym (verdict_is a.image.now _ a.state.now);
      state_after = sym (stays a.image.now _ a.state.now refused);
      after = j.ensures.after;
    }

pub returns : goal.returns
returns c =
    let a = c.args in
    let j = c.judge-verdict in
    let accepted = sym (ap is_accepted j.ensures.value) ∙ sym c.is_ok.ensures.value ∙ c.if-not-is_ok.false in
    record {
      value = c.verdict-2.ensures ∙ ap verdict_for j.ensures.value ∙ sym (verdict_is a.image.now _ a.state.now);
      state_after = c.encode.ensures ∙ ap encoded c.fresh.ensures
          ∙ sym (begins a.image.now _ a.state.now accepted);
      after = j.ensures.after;
    }

-- A step more is made.
use Rattle.std.proofs.Common.{rules, List, ℕ, refl, ap, ◌∙◌, add-one}
use Rattle.bias.specs.Step.{stepped}
use Rattle.manual.specs.Run.{given, repeated}
use Rattle.manual.proofs.repeat.Goals as goal

pub loop-i-init : goal.loop-i-init
unfolding repeated
loop-i-init g c = record { long = search rules; ran = refl }

pub loop-i-preserved : goal.loop-i-preserved
unfolding repeated
loop-i-preserved g c =
    let a = c.args in record {
      long = search rules;
      ran = c.step.ensures ∙ ap (λ (b : List ℕ). (stepped a.image.now b (given a.inputs.now)).buffer) c.loop-i.invariant.ran ∙ rw add-one;
    }

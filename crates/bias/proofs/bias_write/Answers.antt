-- `bias::bias_write` meets its contract: the writer's.
use Rattle.bias_results.specs.Results.{written_for}
use mathlib.Core.Path.{ap, ◌∙◌}
use Rattle.bias.proofs.bias_write.Goals as goal

pub returns : goal.returns
returns c =
    record {
      value = c.written.ensures ∙ ap written_for c.write.ensures.value;
      out_after = c.write.ensures.out_after;
    }

-- Image and steps are what their digits say.
use Rattle.std.proofs.Common.{ℕ, take, sym, ap, ◌∙◌}
use Rattle.std.proofs.lemmas.List.{length-replicate}
use Rattle.text_verdict.specs.Input.{input_length}
use Rattle.manual.specs.Run.{fitting}
use Rattle.manual.proofs.Ran.{decoded_front, example_is}
use Rattle.manual.proofs.example.Goals as goal

pub returns : goal.returns
returns g c =
    let line = c.args.line.now in
    let k = c.space_of-k in
    let first = c.decode-n.ensures in
    let second = c.decode-m.ensures in
    let image = decoded_front (take k.result line) _ _ input_length _ c.input-image.ensures.len first.value first.out_after in
    let steps = decoded_front _ _ _ 4096 _ (sym (length-replicate {A = ℕ} 4096 0)) second.value second.out_after in
    c.in_ok-run.ensures ∙ example_is line _ _ k.result k.ensures.value image (steps ∙ ap (fitting 4096) c.behind.ensures)

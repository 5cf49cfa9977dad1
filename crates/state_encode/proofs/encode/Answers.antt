-- `encode` meets its contract: the landing list that was put is the one that stands there when the other parts are.
use mathlib.Core.Path.{◌≡◌, ap, ◌∙◌}
use mathlib.Core.List.{List}
use Prim.Native.Nat.{ℕ}
use native.Mathlib.Omega.{arith}
use lib.ListN.{length}
use Rattle.limits.specs.Limits.{most_landings}
use Rattle.state_layout.specs.Layout.{state_of, encoded}
use Rattle.state_layout.proofs.Codecs.{words_written}
use Rattle.state_encode.proofs.encode.Goals as goal

pub returns : goal.returns
returns c =
    let v = c.args.s in
    let room : length v.landings ≡ most_landings = omega arith in
    c.encode_parts.ensures
    ∙ ap (λ (l : List ℕ). encoded (state_of v.values.cells.variables v.values.cells.flags v.values.cells.outputs v.header l
    v.values.motion v.values.notes v.tasks))
    (words_written _ _ _ _ _ c.put_words.ensures.b_after room c.put_words.ensures.words_fit (omega (arith, c.requires)))

-- `image_header::reader::same_landings` meets its contract: both lists have room for the most, and past their ends there is nothing that differs.
use mathlib.Core.Path.{◌≡◌, ap, ◌∙◌}
use Prim.Native.Nat.{ℕ, ◌-◌, ◌≤◌}
use native.Mathlib.Omega.{arith}
use Rattle.logic.proofs.Choice.{by}
use Rattle.limits.specs.Limits.{most_landings}
use Rattle.image_header.specs.Rows.{first_same, same_landings}
use Rattle.image_header.proofs.Each.{first_taken}
use Rattle.image_header.proofs.Numbers.{first_past}
use Rattle.image_header.proofs.reader.same_landings.Goals as goal

pub returns : goal.returns
unfolding same_landings
returns c =
    let a = c.args.a.now in
    let b = c.args.b.now in
    let m = c.min-n.result in
    let n = c.args.n in
    let whole : most_landings ≤ n → first_same m a b ≡ first_same n a b =
    λ u. first_past a b m (n - m) (omega arith) (omega arith) ∙ ap (λ (k : ℕ). first_same k a b) (omega arith) in
    c.eq.ensures ∙ first_taken m a b (omega arith) (omega arith) ∙ by n most_landings (λ u. ap (λ (k : ℕ). first_same k a b) (omega arith)) whole

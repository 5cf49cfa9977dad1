-- `state_decode::levels_in` meets its contract: a part of a list is the table of its elements.
use Prim.Native.Nat.{ℕ, ◌+◌, ◌-◌}
use mathlib.Core.Path.{◌≡◌, sym, ap, ◌∙◌}
use mathlib.Core.List.{List}
use native.Mathlib.Omega.{arith}
use lib.ListN.{length, get_or, drop}
use Rattle.std.proofs.lemmas.List.{get_or-take, get_or-drop}
use Rattle.limits.specs.Limits.{cells}
use Rattle.state_bytes.proofs.Tables.{table_is}
use Rattle.state_layout.specs.Codecs.{levels_in}
use Rattle.state_decode.proofs.levels_in.Goals as goal

pub returns : goal.returns
unfolding levels_in
returns c =
    let a = c.args in
    let n : length c.copy_from_slice.new.self ≡ cells = omega arith in
    sym (table_is cells (λ (k : ℕ). get_or a.b.now (a.at + k) 0) c.copy_from_slice.new.self 0 n (λ k l.
    sym (ap (λ (r : List ℕ). get_or r k 0) c.copy_from_slice.ensures.after ∙ get_or-take (a.at + 256 - a.at) (drop a.at a.b.now) k 0 (omega arith) ∙ get_or-drop a.at a.b.now k 0)))

-- `image_header::reader::accepts` meets its contract: each row of the header's numbers is asked.
use borrow.Author.Rules.{rules}
use mathlib.Core.Path.{◌≡◌, refl, ap, ◌∙◌}
use mathlib.Core.Bool.{true, false}
use mathlib.Core.List.{List}
use Prim.Native.Nat.{ℕ}
use Rattle.std.proofs.lemmas.Iterator.{cases_from_all, YieldsList-from_range}
use Rattle.image_header.specs.Numbers.{header_from}
use Rattle.image_header.specs.Rows.{header_count, header_checked, passed, first_pass, accepts}
use Rattle.image_header.proofs.Each.{each_told}
use Rattle.image_header.proofs.reader.accepts.Goals as goal

pub returns : goal.returns
unfolding accepts
returns c =
    let h = header_from c.numbers_of-numbers.result in
    each_told (λ row. passed (header_checked row h)) header_count _
    (cases_from_all _ _ _ (λ row. passed (header_checked row h) ≡ true) (λ row. passed (header_checked row h) ≡ false) c.all.ensures.ran
    (YieldsList-from_range 0 header_count header_count refl refl) (λ x q k. search rules) (λ x q k. search rules))
    ∙ ap (λ (ns : List ℕ). first_pass header_count (header_from ns)) c.numbers_of-numbers.ensures

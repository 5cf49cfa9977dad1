-- `image_writer::put_number` meets its contract, by whether the number stands.
use borrow.Author.Rules.{rules}
use mathlib.Core.Path.{◌≡◌, sym, ◌∙◌}
use native.Mathlib.Nat.{add-zero}
use lib.ListN.{length}
use Rattle.image_header.specs.Rows.{header_count}
use Rattle.image_header.proofs.Beside.{front_stands}
use Rattle.image_writer.specs.Writer.{words_of}
use Rattle.image_writer.proofs.put_number.Goals as goal

pub returns-then-not-stands-clause-value : goal.returns-then-not-stands-clause-value
returns-then-not-stands-clause-value c =
    let a = c.args in
    let long : length a.numbers ≡ header_count = search rules in
    let d = c.stands in
    let no = front_stands (words_of a.landings.now) a.numbers long a.row ∙ sym d.ensures ∙ c.if-not-stands.true in
    rw no (sym (add-zero a.at))

pub returns-then-not-stands-clause-out_after : goal.returns-then-not-stands-clause-out_after
returns-then-not-stands-clause-out_after c =
    let a = c.args in
    let long : length a.numbers ≡ header_count = search rules in
    let d = c.stands in
    let no = front_stands (words_of a.landings.now) a.numbers long a.row ∙ sym d.ensures ∙ c.if-not-stands.true in
    rw no

pub put-requires : goal.put-requires
put-requires c =
    let a = c.args in
    let long : length a.numbers ≡ header_count = search rules in
    let d = c.stands in
    let e = front_stands (words_of a.landings.now) a.numbers long a.row ∙ sym d.ensures ∙ c.if-not-stands.false in
    rw c.number_given.ensures (c.requires.number_in_range e, rw e at c.requires.row_in_bounds)

pub returns-clause-value : goal.returns-clause-value
returns-clause-value c =
    let a = c.args in
    let long : length a.numbers ≡ header_count = search rules in
    let d = c.stands in
    let e = front_stands (words_of a.landings.now) a.numbers long a.row ∙ sym d.ensures ∙ c.if-not-stands.false in
    rw (e, ← c.number_given.ensures) c.put.ensures.0

pub returns-clause-out_after : goal.returns-clause-out_after
returns-clause-out_after c =
    let a = c.args in
    let long : length a.numbers ≡ header_count = search rules in
    let d = c.stands in
    let e = front_stands (words_of a.landings.now) a.numbers long a.row ∙ sym d.ensures ∙ c.if-not-stands.false in
    rw (e, ← c.number_given.ensures) c.put.ensures.1

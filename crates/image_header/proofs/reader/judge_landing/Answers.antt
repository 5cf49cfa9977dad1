-- `image_header::reader::judge_landing` meets its contract, by whether the block fits beside the one before it.
use Rattle.std.specs.Prelude.{Err}
use borrow.Author.Rules.{rules}
use mathlib.Core.Path.{◌≡◌, sym, ap, ◌∙◌}
use Prim.Native.Nat.{ℕ}
use native.Mathlib.Omega.{arith}
use lib.ListN.{length, get_or}
use Rattle.image_result.specs.declared.ImageFault.TheVariants.{BadLanding}
use Rattle.image_header.specs.Rows.{header_count}
use Rattle.image_header.specs.Scan.{stopped, beside}
use Rattle.image_header.specs.declared.reader.Scan.{Scan}
use Rattle.image_header.proofs.Beside.{fits_told, landing_passes, landing_fails}
use Rattle.image_header.proofs.reader.judge_landing.Goals as goal

pub returns-then-not-landing_fits-clause-landings_after : goal.returns-then-not-landing_fits-clause-landings_after
returns-then-not-landing_fits-clause-landings_after c =
    let a = c.args in
    let long : length a.s.numbers ≡ header_count = search rules in
    let p = c.requires in
    let l = a.landings.now in
    let f = c.landing_fits in
    let b = c.block_before in
    let no = fits_told (get_or a.s.numbers 5 0) l a.i a.block b.result f.result (omega arith) b.ensures f.ensures
    ∙ c.if-not-landing_fits.true in
    ap (λ (r : Scan). beside r l) c.stop.ensures
    ∙ ap (λ (p : ℕ). stopped (Err (BadLanding p)) (beside a.s l)) c.place_of_landing.ensures
    ∙ sym (landing_fails a.s long l a.i a.block a.next no)

pub returns-clause-landings_after : goal.returns-clause-landings_after
returns-clause-landings_after c =
    let a = c.args in
    let long : length a.s.numbers ≡ header_count = search rules in
    let p = c.requires in
    let l = a.landings.now in
    let f = c.landing_fits in
    let b = c.block_before in
    let yes = fits_told (get_or a.s.numbers 5 0) l a.i a.block b.result f.result (omega arith) b.ensures f.ensures
    ∙ c.if-not-landing_fits.false in
    sym (landing_passes a.s long l a.i a.block a.next yes)

-- `image_writer::write` meets its contract: a refusal comes before any store, and an image that is written has room.
use mathlib.Core.Path.{◌≡◌, refl, ap, ◌∙◌}
use mathlib.Core.Bool.{true, false}
use mathlib.Core.List.{List}
use Prim.Native.Nat.{ℕ}
use lib.ListN.{length}
use Rattle.image_header.specs.Scan.{beside}
use Rattle.image_writer.specs.Writer.{with_landings, judged_for, image_of, overlaid, written}
use Rattle.image_writer.proofs.Words.{with_landings_lem}
use Rattle.image_writer.proofs.Judged.{write_alone, judged_near, have_forms, has_room, answered, left_alone, put_there}
use Rattle.image_writer.proofs.write.Goals as goal

pub judge-s-requires : goal.judge-s-requires
judge-s-requires c = refl

pub fit-w-requires : goal.fit-w-requires
fit-w-requires c =
    let ns = c.args.numbers in
    let landings = c.args.landings.now in
    let w = with_landings ns landings in
    let g = c.with_count-given in
    let same = with_landings_lem ns landings g.result g.ensures in
    let j = c.judge-s in
    let is : beside j.result j.new.landings ≡ judged_for c.args.format w = j.ensures.landings_after ∙ ap (judged_for c.args.format) same in
    judged_near c.args.format w j.result j.new.landings j.ensures.landings_len is

pub returns-then-not-is_ok : goal.returns-then-not-is_ok
returns-then-not-is_ok c =
    let ns = c.args.numbers in
    let landings = c.args.landings.now in
    let w = with_landings ns landings in
    let g = c.with_count-given in
    let same = with_landings_lem ns landings g.result g.ensures in
    let j = c.judge-s in
    let is : beside j.result j.new.landings ≡ judged_for c.args.format w = j.ensures.landings_after ∙ ap (judged_for c.args.format) same in
    let l = c.args.blocks.now in
    let o = c.args.out.now in
    let f = c.fit-w in
    let t : f.result ≡ written c.args.format w (length l) (length o) =
    f.ensures ∙ write_alone c.args.format w j.result j.new.landings j.ensures.landings_len is (length l) (length o) in
    let d = c.is_ok in
    record {
      value = t;
      out_after = left_alone c.args.format w l o (answered c.args.format w l o f.result t d.result false d.ensures.value
          (c.if-not-is_ok.true));
    }

pub put_image-requires-clause-have_forms : goal.put_image-requires-clause-have_forms
put_image-requires-clause-have_forms c =
    let ns = c.args.numbers in
    let landings = c.args.landings.now in
    let w = with_landings ns landings in
    let g = c.with_count-given in
    let same = with_landings_lem ns landings g.result g.ensures in
    let j = c.judge-s in
    let is : beside j.result j.new.landings ≡ judged_for c.args.format w = j.ensures.landings_after ∙ ap (judged_for c.args.format) same in
    let l = c.args.blocks.now in
    let o = c.args.out.now in
    let f = c.fit-w in
    let t : f.result ≡ written c.args.format w (length l) (length o) =
    f.ensures ∙ write_alone c.args.format w j.result j.new.landings j.ensures.landings_len is (length l) (length o) in
    let d = c.is_ok in
    let ok = answered c.args.format w l o f.result t d.result true d.ensures.value (c.if-not-is_ok.false) in
    rw same (have_forms c.args.format w l (length o) ok)

pub put_image-requires-clause-blocks_in_bounds : goal.put_image-requires-clause-blocks_in_bounds
put_image-requires-clause-blocks_in_bounds c =
    let ns = c.args.numbers in
    let landings = c.args.landings.now in
    let w = with_landings ns landings in
    let g = c.with_count-given in
    let same = with_landings_lem ns landings g.result g.ensures in
    let j = c.judge-s in
    let is : beside j.result j.new.landings ≡ judged_for c.args.format w = j.ensures.landings_after ∙ ap (judged_for c.args.format) same in
    let l = c.args.blocks.now in
    let o = c.args.out.now in
    let f = c.fit-w in
    let t : f.result ≡ written c.args.format w (length l) (length o) =
    f.ensures ∙ write_alone c.args.format w j.result j.new.landings j.ensures.landings_len is (length l) (length o) in
    let d = c.is_ok in
    let ok = answered c.args.format w l o f.result t d.result true d.ensures.value (c.if-not-is_ok.false) in
    rw same (has_room c.args.format w l (length o) ok)

pub returns : goal.returns
returns c =
    let ns = c.args.numbers in
    let landings = c.args.landings.now in
    let w = with_landings ns landings in
    let g = c.with_count-given in
    let same = with_landings_lem ns landings g.result g.ensures in
    let j = c.judge-s in
    let is : beside j.result j.new.landings ≡ judged_for c.args.format w = j.ensures.landings_after ∙ ap (judged_for c.args.format) same in
    let l = c.args.blocks.now in
    let o = c.args.out.now in
    let f = c.fit-w in
    let t : f.result ≡ written c.args.format w (length l) (length o) =
    f.ensures ∙ write_alone c.args.format w j.result j.new.landings j.ensures.landings_len is (length l) (length o) in
    let d = c.is_ok in
    let ok = answered c.args.format w l o f.result t d.result true d.ensures.value (c.if-not-is_ok.false) in
    record {
      value = t;
      out_after = c.put_image.ensures ∙ ap (λ (n : List ℕ). overlaid (image_of n l) o) same ∙ put_there c.args.format w l o ok;
    }

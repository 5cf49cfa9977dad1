-- `bias::fresh` meets its contract: the header is the image's, all 0 where it is refused.
use mathlib.Core.Path.{◌≡◌, sym, ap₂, ◌∙◌}
use Rattle.image_header.specs.Numbers.{header_from}
use Rattle.image_header.specs.Scan.{no_numbers}
use Rattle.image_header.specs.declared.Header.{Header}
use Rattle.state.specs.State.{fresh}
use Rattle.image_header.proofs.Read.{handed, refused_header}
use Rattle.bias.proofs.fresh.Goals.{in-Ok, in-Err}
use Rattle.bias.proofs.fresh.Goals as goal

-- a header of zeros
zeros : (h : Header) → h.format ≡ 0 → h.drive.model ≡ 0 → h.drive.b ≡ 0 → h.drive.c ≡ 0 → h.start ≡ 0 → h.count ≡ 0 → h.landings ≡ 0 → h ≡ header_from no_numbers
zeros h f m b c s n l = λ ι. record { format = f ι; drive = record { model = m ι; b = b ι; c = c ι }; start = s ι; count = n ι; landings = l ι }

pub returns : goal.returns
returns c = c.fresh.ensures ∙ ap₂ fresh (elim c.match-read.branch [
  | in-Ok w ↦ w.header-is ∙ (handed c.args.image.now w.in-Ok.read (sym w.in-Ok.ensures.value)).header
  | in-Err w ↦ let d = w.default-header.ensures in
      w.header-is ∙ zeros w.default-header.result d.0 d.1.0.0 d.1.0.1.0 d.1.0.1.1 d.1.1.0 d.1.1.1.0 d.1.1.1.1 ∙ sym (refused_header c.args.image.now _ (sym w.in-Err.ensures.value))
]) c.read.ensures.landings_after

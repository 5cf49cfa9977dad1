-- `state_encode::put_header` meets its contract: one number put behind the other.
use mathlib.Core.Path.{refl}
use Rattle.image_header.specs.Numbers.{numbers_of}
use Rattle.state_sections.proofs.Sections.{put, done}
use Rattle.state_sections.proofs.Records.{record_put}
use Rattle.state_layout.specs.Codecs.{header_widths}
use Rattle.state_layout.specs.Layout.{header_at}
use Rattle.state_encode.proofs.put_header.Goals as goal

pub returns : goal.returns
returns c =
    record_put header_widths (numbers_of _) header_at refl
    (put c.put_byte.ensures
    (put c.put_byte-2.ensures
    (put c.put_byte-3.ensures
    (put c.put_byte-4.ensures
    (put c.put_word.ensures
    (put c.put_word-2.ensures
    (put c.put_byte-5.ensures
    done)))))))

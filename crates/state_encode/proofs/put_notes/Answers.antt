-- `state_encode::put_notes` meets its contract: one number put behind the other.
use mathlib.Core.Path.{refl}
use mathlib.Core.List.{[], ◌∷◌}
use Rattle.state_sections.proofs.Sections.{put, done}
use Rattle.state_sections.proofs.Records.{record_put}
use Rattle.state_layout.specs.Codecs.{notes_widths}
use Rattle.state_layout.specs.Layout.{notes_at}
use Rattle.state_encode.proofs.put_notes.Goals as goal

pub returns : goal.returns
returns c = record_put notes_widths (_ ∷ _ ∷ []) notes_at refl (put c.put_byte.ensures (put
    c.put_byte-2.ensures done))

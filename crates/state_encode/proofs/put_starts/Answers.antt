-- `state_encode::put_starts` meets its contract: one number put behind the other.
use mathlib.Core.Path.{refl}
use mathlib.Core.List.{[], ◌∷◌}
use Rattle.state_sections.proofs.Sections.{put, done}
use Rattle.state_sections.proofs.Records.{record_put}
use Rattle.state_layout.specs.Codecs.{start_widths}
use Rattle.state_layout.specs.Layout.{starts_at}
use Rattle.state_encode.proofs.put_starts.Goals as goal

pub returns : goal.returns
returns c = record_put start_widths (_ ∷ _ ∷ []) starts_at refl (put c.put_word.ensures (put
    c.put_word-2.ensures done))

-- `state_encode::put_layout` meets its contract: a record of one number.
use mathlib.Core.Path.{refl}
use mathlib.Core.List.{[], ◌∷◌}
use Rattle.state_sections.proofs.Sections.{put, done}
use Rattle.state_sections.proofs.Records.{record_put}
use Rattle.state_layout.specs.Codecs.{layout_number, layout_widths}
use Rattle.state_layout.specs.Layout.{layout_at}
use Rattle.state_encode.proofs.put_layout.Goals as goal

pub returns : goal.returns
returns c = record_put layout_widths (layout_number ∷ []) layout_at refl (put c.put_byte.ensures done)

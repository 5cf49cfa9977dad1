-- The numbers of an image before its blocks, in the order in which they stand (document 01, "The image"; change request 1): those of the header, then the
-- landing blocks. A list of them has a place for each number that any format has; one that is not there is 0.
use Rattle.std.specs.Prelude.{ℕ, ◌<◌, List, [], ◌∷◌, get_or}
use Rattle.drive.specs.declared.Drive.{Drive}
use Rattle.image_header.specs.declared.Header.{Header}

-- the numbers of a header: format, type, slot B, slot C, start, count, landing count
abbrev pub numbers_of : Header → List ℕ
numbers_of h = h.format ∷ h.drive.model ∷ h.drive.b ∷ h.drive.c ∷ h.start ∷ h.count ∷ h.landings ∷ []

-- the header of these numbers; one that is not there is 0
abbrev pub header_from : List ℕ → Header
header_from ns = record {
  format = get_or ns 0 0;
  drive = record { model = get_or ns 1 0; b = get_or ns 2 0; c = get_or ns 3 0 };
  start = get_or ns 4 0;
  count = get_or ns 5 0;
  landings = get_or ns 6 0;
}

-- the header with another drive
abbrev pub with_drive : Drive → Header → Header
with_drive d h = record { format = h.format; drive = d; start = h.start; count = h.count; landings = h.landings }

-- each number fits the width that the header has for it
pub record Narrow (ns : List ℕ) : Type 0 where
  pub format : (header_from ns).format < 256
  pub model : (header_from ns).drive.model < 256
  pub b : (header_from ns).drive.b < 256
  pub c : (header_from ns).drive.c < 256
  pub start : (header_from ns).start < 65536
  pub count : (header_from ns).count < 65536
  pub landings : (header_from ns).landings < 256

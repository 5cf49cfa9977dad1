-- What a program is judged under: its header and its landing blocks (change request 1). Flows, permission and what a point breaks take this record, and with
-- them walks, verdicts and steps, so that what is judged under is named in one place.
use Rattle.std.specs.Prelude.{ℕ, List, [], take}
use Rattle.image_header.specs.Scan.{header_of, landings_of}
use Rattle.image_header.specs.declared.Header.{Header}
use Rattle.image_header.specs.Scan.{HeaderJudged}

pub record Terms : Type 0 where
  pub header : Header
  pub landings : List ℕ

-- of a header, and of a landing list with room for the most: the header says how many of it are landing blocks
abbrev pub under : Header → List ℕ → Terms
under h l = record { header = h; landings = take h.landings l }

-- of a header alone, for what no landing block decides: the flow of a command, which task may use it, what a point breaks
abbrev pub by_header : Header → Terms
by_header h = record { header = h; landings = [] }

-- of what was read of an image, and of an image
abbrev pub terms_in : HeaderJudged → List ℕ → Terms
terms_in r l = under r.header l

abbrev pub terms_of : List ℕ → Terms
terms_of image = terms_in (header_of image) (landings_of image)

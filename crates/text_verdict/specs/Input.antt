-- How much of an input is enough to judge it: proofs/Beginning.antt.
use Rattle.std.specs.Prelude.{ℕ, ◌+◌, List, replicate}
use Rattle.image_header.specs.Longest.{longest_image}

-- the longest image and a byte behind it, by which 4 is seen
abbrev pub input_length : ℕ
input_length = longest_image + 1

-- so many bytes, each 0
unfoldable pub zeros : ℕ → List ℕ
zeros n = replicate n 0

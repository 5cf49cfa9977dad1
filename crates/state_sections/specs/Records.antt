-- A record: numbers of fixed widths, one behind the other, low byte first.
use Rattle.std.specs.Prelude.{ℕ, ◌+◌, List, [], ◌∷◌}
use Rattle.num_le.specs.LittleEndian.{le_bytes}
use Rattle.state_bytes.specs.Bytes.{le_number_at}
use Rattle.state_sections.specs.Sections.{joined}

-- the bytes of each number, by the widths
abbrev pub packed : List ℕ → List ℕ → List (List ℕ)
packed [] ns = []
packed (w ∷ ws) [] = []
packed (w ∷ ws) (n ∷ ns) = le_bytes w n ∷ packed ws ns

-- the bytes of a record
abbrev pub record_bytes : List ℕ → List ℕ → List ℕ
record_bytes widths numbers = joined (packed widths numbers)

-- the numbers of these widths that stand `off` bytes behind a place
abbrev pub unpacked : List ℕ → List ℕ → ℕ → ℕ → List ℕ
unpacked [] s at off = []
unpacked (w ∷ ws) s at off = le_number_at w s (at + off) ∷ unpacked ws s at (off + w)

-- the numbers of the record at a place
abbrev pub record_in : List ℕ → List ℕ → ℕ → List ℕ
record_in widths s at = unpacked widths s at 0

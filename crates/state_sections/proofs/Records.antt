-- A record's bytes: how many; the numbers are read back where they stand; and a list has, where a record is read, the bytes of what is read.
use mathlib.Core.Path.{◌≡◌, refl, sym}
use Prim.Native.Nat.{ℕ, ◌+◌, ◌^◌, ◌<◌}
use native.Mathlib.Omega.{arith}
use mathlib.Core.List.{List, [], ◌∷◌}
use lib.ListN.{length}
use Rattle.num_le.specs.LittleEndian.{Bytes, le_bytes}
use Rattle.num_le.proofs.LittleEndian.{bytes_length}
use Rattle.state_bytes.specs.Bytes.{le_number_at, puts}
use Rattle.logic.proofs.Has.{Has, left, right, nil, join}
use Rattle.state_bytes.proofs.Numbers.{number, of_number}
use Rattle.state_sections.specs.Sections.{joined, total}
use Rattle.state_sections.specs.Records.{packed, record_bytes, unpacked, record_in}
use Rattle.state_sections.proofs.Sections.{lens, length_joined, moved, at_first, Chain, chained_first}

-- numbers that fit their widths
abbrev pub FitWidths : List ℕ → List ℕ → Type 0
FitWidths [] ns = ns ≡ []
FitWidths (w ∷ ws) [] = ⊥
FitWidths (w ∷ ws) (n ∷ ns) = (n < 256 ^ w) × FitWidths ws ns

-- each number has as many bytes as its width says
pub packed_long : (ws ns : List ℕ) → length ns ≡ length ws → lens (packed ws ns) ≡ ws
packed_long [] ns e = refl
packed_long (w ∷ ws) [] e = absurd (omega arith)
packed_long (w ∷ ws) (n ∷ ns) e = let long = bytes_length w n in let rest = packed_long ws ns (omega arith) in λ ι. long ι ∷ rest ι

pub record_long : (ws ns : List ℕ) → length ns ≡ length ws → length (record_bytes ws ns) ≡ total ws
record_long ws ns e = length_joined (packed ws ns) ws (packed_long ws ns e)

-- ---- read back

unpacked_back : (ws ns l : List ℕ) (at off : ℕ) → FitWidths ws ns → Has l (at + off) (joined (packed ws ns)) → unpacked ws l at off ≡ ns
unfolding joined
unpacked_back [] ns l at off f h = sym f
unpacked_back (w ∷ ws) [] l at off f h = absurd f
unpacked_back (w ∷ ws) (n ∷ ns) l at off f h =
    let x : List ℕ = le_bytes w n in
    let first = number w n f.0 (left x (joined (packed ws ns)) h) in
    let rest = unpacked_back ws ns l at (off + w) f.1
    (moved (at + off + w) (at + (off + w)) (omega arith) (right x (joined (packed ws ns)) w (bytes_length w n) h)) in
    λ ι. first ι ∷ rest ι

pub record_back : (ws ns l : List ℕ) (at : ℕ) → FitWidths ws ns → Has l at (record_bytes ws ns) → record_in ws l at ≡ ns
record_back ws ns l at f h = unpacked_back ws ns l at 0 f (at_first h)

-- ---- put, one number behind the other

pub record_put : (ws ns : List ℕ) (at : ℕ) → length ns ≡ length ws → {l l' : List ℕ} → Chain at 0 ws (packed ws ns) l l' → l' ≡ puts l at (record_bytes ws ns)
record_put ws ns at e c = chained_first c (packed_long ws ns e)

-- ---- the bytes of what is read

unpacked_has : (ws l : List ℕ) (at off : ℕ) → Bytes l → Has l (at + off) (joined (packed ws (unpacked ws l at off)))
unfolding joined
unpacked_has [] l at off b = nil
unpacked_has (w ∷ ws) l at off b =
    join (le_bytes w (le_number_at w l (at + off))) (joined (packed ws (unpacked ws l at (off + w)))) w (bytes_length w _) (of_number w l (at + off) b)
    (moved (at + (off + w)) (at + off + w) (omega arith) (unpacked_has ws l at (off + w) b))

pub record_has : (ws l : List ℕ) (at : ℕ) → Bytes l → Has l at (record_bytes ws (record_in ws l at))
record_has ws l at b = moved (at + 0) at (omega arith) (unpacked_has ws l at 0 b)

-- as many numbers as widths
pub length_record : (ws l : List ℕ) (at : ℕ) → length (record_in ws l at) ≡ length ws
length_record ws l at = go ws 0
  where
    go : (vs : List ℕ) (off : ℕ) → length (unpacked vs l at off) ≡ length vs
    go [] off = refl
    go (v ∷ vs) off = let h = go vs (off + v) in omega arith

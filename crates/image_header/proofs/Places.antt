-- The place that 3 and 21 name is where that number stands: numbers are read in their shortest form, so each stands behind the bytes of those before it.
use mathlib.Core.Path.{◌≡◌, refl, sym, ap, ◌∙◌}
use mathlib.Core.Bool.{true}
use mathlib.Core.List.{List}
use Prim.Native.Nat.{ℕ, zero, suc, ◌+◌, ◌<◌, ◌≤◌}
use native.Mathlib.Omega.{arith}
use lib.ListN.{length, get_or, set}
use lib.Seq.{get_or-set_other}
use Rattle.logic.proofs.Choice.{test}
use Rattle.image_result.specs.ImageResult.{done}
use Rattle.image_number.specs.Number.{number_bytes, read_as}
use Rattle.image_number.proofs.RoundTrip.{number_only}
use Rattle.image_header.specs.Rows.{row_count}
use Rattle.image_header.specs.Scan.{Source, Scanned, from_image, stands_at, scan}
use Rattle.image_header.proofs.Scanning.{same_place, value, number_is, stands_then}
use Rattle.image_header.proofs.Accepted.{place, standing, went}

-- a source whose numbers are in their shortest form
abbrev pub Shortest : Source → Type 0
Shortest source = (row at v next : ℕ) → source row at ≡ read_as v next → next ≡ at + length (number_bytes v)

pub image_shortest : (image : List ℕ) → ((k : ℕ) → get_or image k 0 < 256) → Shortest (from_image image)
image_shortest image bytes row at v next e = (number_only image at v next (bytes at) e).next

module _ (n : ℕ) (source : Source) (shortest : Shortest source) (row : ℕ) (l : row < row_count) (ok : done (scan n source row).result ≡ true) where
  stands_at_lem : (k : ℕ) → k ≤ row → stands_at (scan n source row).numbers k ≡ place n source k
  unfolding stands_at scan
  stands_at_lem zero u = refl
  stands_at_lem (suc k) u =
      let w = went n source row (omega arith) ok k (omega arith) in
      let e = stands_at_lem k (omega arith) in
      let q = stands_then n source k row (omega arith) in
      test (standing n source k)
      (λ t.
      let p = shortest k (place n source k) (value n source k) (place n source (suc k)) (w.stood t) in
      rw (q, t, number_is n source row k (omega arith)) (ap (λ (m : ℕ). m + length (number_bytes (value n source k))) e ∙ sym p))
      (λ t. let p = ap (λ (s : Scanned). s.at) (w.over t) in rw (q, t) (omega arith))

  -- once number `row` has been read, whatever it is, the place of number k is where k stands
  pub blamed_at : (v k : ℕ) → k ≤ row → stands_at (set (scan n source row).numbers row v) k ≡ place n source k
  blamed_at v k u =
      same_place (set (scan n source row).numbers row v) (scan n source row).numbers k
      (λ j h. get_or-set_other (scan n source row).numbers row j v 0 (λ q. absurd (omega arith)))
      ∙ stands_at_lem k u

-- What the header and the landing list of an image that is not refused promise to whoever goes on with it.
use Rattle.std.specs.Prelude.{Ok}
use mathlib.Core.Path.{◌≡◌, ap, sym, ◌∙◌, subst}
use mathlib.Core.List.{List}
use Prim.Native.Nat.{ℕ, ◌*◌}
use native.Mathlib.Omega.{arith}
use lib.ListN.{length, length-drop}
use Rattle.limits.specs.Limits.{block_length}
use Rattle.image_result.specs.ImageResult.{done}
use Rattle.image_header.specs.GoodHeader.{GoodHeader, GoodLandings}
use Rattle.image_header.specs.Rows.{landings_from}
use Rattle.image_header.specs.Scan.{from_image, scanned_header, scan_of, header_of, landings_of, blocks_of}
use Rattle.image_header.specs.declared.Header.{Header}
use Rattle.image_header.specs.Scan.{HeaderJudged}
use Rattle.image_header.proofs.Accepted.{Accepted, accepted_header}
use Rattle.image_header.proofs.Read.{read_fine}

module _ (image : List ℕ) (ok : (header_of image).result ≡ Ok tt) where
  accepted : Accepted (length image) (from_image image)
  accepted = accepted_header (length image) (from_image image) (read_fine image (ap done ok)).scanned

  -- it is that of the numbers that were read
  pub header_is : (header_of image).header ≡ scanned_header (scan_of image)
  unfolding header_of
  header_is = ap (λ (r : HeaderJudged). r.header) (read_fine image (ap done ok)).is

  -- each number of the header is in its range
  pub header_good : GoodHeader (header_of image).header
  header_good = subst GoodHeader (sym header_is) accepted.good

  -- so is each landing block, and there are as many as it says
  pub landings_good : GoodLandings (header_of image).header (landings_of image)
  unfolding landings_of
  landings_good = subst (λ (h : Header). GoodLandings h (landings_from (scan_of image).numbers)) (sym header_is) accepted.landings

  -- there are as many blocks as it says
  pub block_bytes : length (blocks_of image) ≡ block_length * (header_of image).header.count
  unfolding header_of blocks_of
  block_bytes =
      let c = read_fine image (ap done ok) in
      let l = c.long in
      let h = ap (λ (r : HeaderJudged). r.header.count) c.is in
      let p = ap (λ (r : HeaderJudged). r.at) c.is in
      rw (ap done ok) (length-drop (header_of image).at image ∙ omega arith)

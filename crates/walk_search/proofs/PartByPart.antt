-- The verdict on an image, part by part: a header that is refused, one that leads to the blocks, and what is handed back of them.
use Rattle.std.specs.Prelude.{Ok, Err}
use Prim.Native.Nat.{ℕ, ◌≤◌}
use mathlib.Core.Path.{◌≡◌, refl}
use mathlib.Core.List.{List}
use native.Mathlib.Omega.{arith}
use lib.ListN.{length}
use borrow.Author.Tests.{le-ltb}
use Rattle.limits.specs.Limits.{marks_length}
use Rattle.image_header.specs.Scan.{read_result, header_of, landings_of, blocks_of}
use Rattle.image_header.specs.GoodHeader.{GoodHeader, GoodLandings}
use Rattle.image_header.specs.declared.reader.HeaderRead.{HeaderRead}
use Rattle.image_result.specs.declared.ImageFault.{ImageFault}
use Rattle.image_header.proofs.HeaderGood.{header_good, landings_good}
use Rattle.image_header.proofs.Rows.{most_of_lem}
use Rattle.walk_flow.specs.Terms.{under}
use Rattle.walk.specs.Successors.{WalkBounds}
use Rattle.walk.specs.Verdict.{blocks_verdict, read_verdict, verdict_of}
use Rattle.walk.proofs.Points.Bounds.{good_bounds}
use Rattle.walk.specs.Verdict.{Verdict}
use Rattle.walk.specs.declared.Refusal.TheVariants.{Image}
use Rattle.image_header.proofs.Read.{handed, refused}

module _ (image : List ℕ) where
  pub refused_image : (n : ℕ) (f : ImageFault) → read_result (header_of image) ≡ Err f → marks_length ≤ n → Err (Image f) ≡ verdict_of image n
  unfolding verdict_of read_verdict
  refused_image n f e l = rw (le-ltb n marks_length l, refused image f e) refl

  module _ (h : HeaderRead) (ls : List ℕ) (e : read_result (header_of image) ≡ Ok h) (k : ls ≡ landings_of image) where
    good : GoodHeader h.header × GoodLandings h.header ls
    good = let r = handed image h e in rw (r.header, k) (header_good image r.result, landings_good image r.result)

    -- the list has room for the landing blocks that the header names, and under them walks stay within the marks
    pub landings_fit : h.header.landings ≤ length ls
    landings_fit = omega (arith, good.0.landings, most_of_lem h.header.format, good.1.long)

    pub walks_bounded : WalkBounds (under h.header ls)
    walks_bounded = good_bounds h.header ls good.0 good.1

    pub judged_image : (n : ℕ) (bs : List ℕ) (v : Verdict) → bs ≡ blocks_of image → marks_length ≤ n
        → v ≡ blocks_verdict (under h.header ls) bs 0 h.header.count → v ≡ verdict_of image n
    unfolding verdict_of read_verdict
    judged_image n bs v b l j = let r = handed image h e in rw (le-ltb n marks_length l, r.result, ← r.header, ← k, ← b) j

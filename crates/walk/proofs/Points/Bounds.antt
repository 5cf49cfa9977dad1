-- What load accepts of a header and a landing list keeps walks within the marks: the landing blocks are as many as the header says, each below the count.
use Rattle.std.specs.Prelude.{Ok}
use Prim.Native.Nat.{ℕ, zero, suc, ◌<◌, ◌≤◌}
use mathlib.Core.Path.{◌≡◌}
use mathlib.Core.Logic.{inl, inr}
use mathlib.Core.List.{List, [], ◌∷◌}
use native.Mathlib.Omega.{arith}
use lib.ListN.{length, get_or, take}
use Rattle.image_header.specs.GoodHeader.{GoodHeader, GoodLandings}
use Rattle.image_header.specs.Scan.{header_of}
use Rattle.image_header.specs.declared.Header.{Header}
use Rattle.image_header.proofs.Rows.{most_of_lem}
use Rattle.image_header.proofs.HeaderGood.{header_good, landings_good}
use Rattle.walk_flow.specs.Terms.{under, terms_of}
use Rattle.walk.specs.Graph.{In}
use Rattle.walk.specs.Successors.{WalkBounds}

-- what is among the first n of a list stands at one of its places below n
pub record Placed (l : List ℕ) (n a : ℕ) : Type 0 where
  pub at : ℕ
  pub below : at < n
  pub is : a ≡ get_or l at 0

pub taken_placed : (n : ℕ) (l : List ℕ) (a : ℕ) → In a (take n l) → Placed l n a
taken_placed zero l a m = absurd m
taken_placed (suc n) [] a m = absurd m
taken_placed (suc n) (x ∷ l) a (inl e) = record { at = 0; below = omega arith; is = e }
taken_placed (suc n) (x ∷ l) a (inr m) = let k = taken_placed n l a m in let b = k.below in record { at = suc k.at; below = omega arith; is = k.is }

taken_few : (n : ℕ) (l : List ℕ) → length (take n l) ≤ n
taken_few zero l = omega arith
taken_few (suc n) [] = omega arith
taken_few (suc n) (x ∷ l) = let e = taken_few n l in omega arith

pub good_bounds : (h : Header) (l : List ℕ) → GoodHeader h → GoodLandings h l → WalkBounds (under h l)
good_bounds h l g k = record {
  most = g.count.1;
  begins = g.start;
  few = let a = taken_few h.landings l in let b = g.landings in let c = most_of_lem h.format in omega arith;
  below = λ a m. let p = taken_placed h.landings l a m in rw p.is (k.below p.at p.below);
}

pub image_bounds : (image : List ℕ) → (header_of image).result ≡ Ok tt → WalkBounds (terms_of image)
image_bounds image ok = good_bounds _ _ (header_good image ok) (landings_good image ok)

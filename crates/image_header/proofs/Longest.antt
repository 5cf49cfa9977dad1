-- No image that 1 to 4 and 21 let pass is longer than the longest (include/bias.h: BIAS_MOST_IMAGE_LENGTH): a number below 128 takes one byte, and no number
-- before the blocks is above its greatest.
use mathlib.Core.Path.{◌≡◌, refl, ap, subst}
use mathlib.Core.Bool.{Bool, true, false, cond}
use mathlib.Core.Logic.{⊎_elim}
use mathlib.Core.List.{List}
use Prim.Native.Nat.{ℕ, zero, suc, ◌+◌, ◌-◌, ◌*◌, ◌<◌, ◌≤◌}
use native.Mathlib.Omega.{arith}
use lib.ListN.{length, get_or}
use lib.Seq.{get_or-drop}
use lib.Dec.{eqb, ltb}
use borrow.Author.Tests.{ltb-false, eqb-false, lt-ltb, le-ltb}
use Rattle.limits.specs.Limits.{most_blocks, block_length}
use Rattle.drive.specs.Types.{slot_b, slot_c}
use Rattle.drive.proofs.EveryDrive.{board_small}
use Rattle.std.specs.Prelude.{Result, Ok, Err}
use Rattle.image_result.specs.ImageResult.{done}
use Rattle.logic.proofs.Choice as choice
use Rattle.logic.proofs.Choice.{by}
use Rattle.image_number.specs.Number.{number_limit, second_byte, first_byte, number_at}
use Rattle.image_number.specs.declared.Number.{Number}
use Rattle.image_number.specs.declared.NumberFault.{NumberFault}
use Rattle.image_header.specs.Numbers.{header_from}
use Rattle.image_header.specs.GoodHeader.{GoodHeader, GoodLandings}
use Rattle.image_header.specs.Rows.{header_count, row_count, landings_from, stands}
use Rattle.image_header.specs.Scan.{Source, Scanned, from_image, scan, scanned_header, header_of}
use Rattle.image_header.specs.Longest.{greatest_header, greatest, size_up_to, longest_first, longest_image}
use Rattle.image_header.proofs.Rows.{most_of_lem}
use Rattle.image_header.proofs.Scanning.{number_is}
use Rattle.image_header.proofs.Accepted.{place, Accepted, accepted_header}
use Rattle.image_header.proofs.Read.{read_fine}

-- a number takes no more bytes than one that is as great or greater may
abbrev pub Sized : ℕ → Result Number NumberFault → Type 0
Sized at (Ok x) = (most : ℕ) → x.value ≤ most → x.next ≤ at + size_up_to most
Sized at (Err f) = Unit {0}

-- one byte is never too many, and two are not from 128 on
pub one_byte : (at most : ℕ) → at + 1 ≤ at + size_up_to most
one_byte at most = choice.either (λ (n : ℕ). at + 1 ≤ at + n) (ltb most 128) (omega arith) (omega arith)

pub two_bytes : (at v most : ℕ) → 128 ≤ v → v ≤ most → at + 2 ≤ at + size_up_to most
two_bytes at v most l h = let e = le-ltb most 128 (omega arith) in rw e (omega arith)

either : (P : Result Number NumberFault → Type 0) (t : Bool) (a b : Result Number NumberFault) → (t ≡ true → P a) → (t ≡ false → P b) → P (cond t a b)
either P true a b f g = f refl
either P false a b f g = g refl

pub image_sized : (image : List ℕ) (row at : ℕ) → Sized at (from_image image row at)
unfolding number_at first_byte second_byte
image_sized image row at =
    let b = get_or image at 0 in
    let c = get_or image (at + 1) 0 in
    either (Sized at) (ltb at (length image)) _ _
    (λ _. either (Sized at) (ltb b 128) _ _
    (λ _ most _. one_byte at most)
    (λ l. either (Sized at) (ltb (at + 1) (length image)) _ _
    (λ _. either (Sized at) (eqb c 0) _ _ (λ _. tt)
    (λ n. either (Sized at) (ltb c 128) _ _
    (λ _ most h. let m = ltb-false b 128 l in let k = eqb-false c 0 n in two_bytes at _ most (omega arith) h)
    (λ _. tt)))
    (λ _. tt)))
    (λ _. tt)

-- no number of a good header, and no good landing block, is above its greatest
module _ (ns : List ℕ) (g : GoodHeader (header_from ns)) (good : GoodLandings (header_from ns) (landings_from ns)) where
  header_below : (k : ℕ) → k < header_count → get_or ns k 0 ≤ get_or greatest_header k 0
  header_below zero u = ⊎_elim (λ e. omega arith) (λ e. omega arith) g.format
  header_below (suc zero) u = let e = g.model in omega arith
  header_below (suc (suc zero)) u = let e = board_small slot_b _ _ g.board_b in omega arith
  header_below (suc (suc (suc zero))) u = let e = board_small slot_c _ _ g.board_c in omega arith
  header_below (suc (suc (suc (suc zero)))) u = let e = g.start in let m = g.count.1 in omega arith
  header_below (suc (suc (suc (suc (suc zero))))) u = let e = g.count.1 in omega arith
  header_below (suc (suc (suc (suc (suc (suc zero)))))) u = let e = g.landings in let m = most_of_lem (header_from ns).format in omega arith
  header_below (suc (suc (suc (suc (suc (suc (suc j))))))) u = absurd (omega arith)

  landing_below : (i : ℕ) → get_or ns (header_count + i) 0 ≤ most_blocks - 1
  landing_below i =
      let e = get_or-drop header_count ns i 0 in
      let m = g.count.1 in
      by i (header_from ns).landings (λ u. let b = good.below i u in omega arith) (λ u. let z = good.past i u in omega arith)

  below_greatest : (k : ℕ) → get_or ns k 0 ≤ greatest k
  below_greatest k =
      by k header_count
      (λ u. rw (lt-ltb k header_count u) (header_below k u))
      (λ u. let q : header_count + (k - header_count) ≡ k = omega arith in rw (le-ltb k header_count u) (rw q at (landing_below (k - header_count))))

  -- so each has a form of one or two bytes
  pub number_small : (k : ℕ) → get_or ns k 0 < number_limit
  number_small k = let h = below_greatest k in let m = small in omega arith
    where
      header_small : (j : ℕ) → get_or greatest_header j 0 ≤ most_blocks
      header_small zero = omega arith
      header_small (suc zero) = omega arith
      header_small (suc (suc zero)) = omega arith
      header_small (suc (suc (suc zero))) = omega arith
      header_small (suc (suc (suc (suc zero)))) = omega arith
      header_small (suc (suc (suc (suc (suc zero))))) = omega arith
      header_small (suc (suc (suc (suc (suc (suc zero)))))) = omega arith
      header_small (suc (suc (suc (suc (suc (suc (suc j))))))) = omega arith

      small : greatest k ≤ most_blocks
      small = choice.either (λ (v : ℕ). v ≤ most_blocks) (ltb k header_count) (header_small k) (omega arith)

-- where the numbers end
module _ (n : ℕ) (source : Source) (sized : (row at : ℕ) → Sized at (source row at)) (a : Accepted n source) where
  ends : (k : ℕ) → k ≤ row_count → place n source k ≤ longest_first k
  unfolding scan
  ends zero l = omega arith
  ends (suc k) l =
      let u : k < row_count = omega arith in
      let e = ends k (omega arith) in
      choice.test (stands k (scan n source row_count).numbers)
      (λ t.
      let v = number_is n source row_count k u in
      let m = below_greatest (scan n source row_count).numbers a.good a.landings k in
      let p = subst (Sized (place n source k)) (a.numbers k u t) (sized k (place n source k)) (greatest k) (omega arith) in
      omega arith)
      (λ t. let p = ap (λ (s : Scanned). s.at) (a.over k u t) in omega arith)

  -- with the blocks behind them
  pub image_end : place n source row_count + block_length * (scanned_header (scan n source row_count)).count ≤ longest_image
  image_end =
      let p = ends row_count (omega arith) in
      let k = a.good.count.1 in
      omega arith

pub longest_image_lem : (image : List ℕ) → done (header_of image).result ≡ true → length image ≤ longest_image
longest_image_lem image ok =
    let r = read_fine image ok in
    let l = r.long in
    let e = image_end (length image) (from_image image) (image_sized image) (accepted_header (length image) (from_image image) r.scanned) in
    omega arith

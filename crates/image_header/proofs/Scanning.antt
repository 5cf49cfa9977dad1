-- One number more of an image: what a scan does with it, where it stands, and how far a scan can come.
use mathlib.Core.Path.{◌≡◌, refl, sym, ap, ◌∙◌}
use mathlib.Core.Bool.{true, false, ◌&&◌}
use mathlib.Core.List.{List}
use native.Mathlib.Omega.{arith}
use lib.ListN.{length, get_or, set, replicate, length-set, length-replicate, get_or-replicate, get_or-eq_default}
use lib.Seq.{get_or-set_other, set-get_or, set-set}
use lib.Dec.{eqb, ltb}
use Prim.Native.Nat.{ℕ, zero, suc, ◌+◌, ◌*◌, ◌<◌, ◌≤◌}
use native.Mathlib.Numerals.{add-one}
use borrow.Author.Count.{below_more}
use Rattle.std.specs.Prelude.{Result, Ok, Err}
use Rattle.image_result.specs.ImageResult.{done}
use Rattle.image_number.specs.Number.{number_at, first_byte, second_byte}
use Rattle.image_number.specs.declared.Number.{Number}
use Rattle.image_number.specs.declared.NumberFault.{NumberFault}
use Rattle.logic.proofs.Choice.{by, either}
use Rattle.image_header.specs.Rows.{row_count, stands, Check, checked}
use Rattle.image_header.specs.Scan.{Source, Scanned, from_image, with_number, stands_at, unless_failed, judged, taken, more, scan}
use Rattle.image_header.proofs.Rows.{stands_back}

module _ (n : ℕ) (source : Source) (row : ℕ) (s : Scanned) where
  -- a number that does not stand is passed over, and after a refusal nothing more is read
  pub stays : (done s.result && stands row s.numbers) ≡ false → more n source row s ≡ s
  unfolding more
  stays h = rw h

  -- else the number that stands there is taken
  pub takes : (done s.result && stands row s.numbers) ≡ true → (x : Result Number NumberFault) → source row s.at ≡ x → more n source row s ≡ taken n row s x
  unfolding more
  takes h x e = rw (h, e)

-- one row more of a scan
pub next_row : (n : ℕ) (source : Source) (row : ℕ) (s t : Scanned) → s ≡ scan n source row → t ≡ more n source row s → t ≡ scan n source (row + 1)
unfolding scan
next_row n source row s t e q = q ∙ rw (e, add-one)

-- a number's place hangs on the numbers before it alone
pub same_place : (ns ms : List ℕ) (k : ℕ) → ((j : ℕ) → j < k → get_or ns j 0 ≡ get_or ms j 0) → stands_at ns k ≡ stands_at ms k
unfolding stands_at
same_place ns ms zero e = refl
same_place ns ms (suc k) e =
    let a = same_place ns ms k (λ j l. e j (omega arith)) in
    let t = stands_back ns ms k (λ j l _. e j (omega arith)) in
    rw (a, t, e k (omega arith))

-- ---- a number takes at most two bytes, so a scan of k numbers is at most 2 * k bytes on

-- the place behind a number
abbrev pub Near : ℕ → Result Number NumberFault → Type 0
Near at (Ok x) = x.next ≤ at + 2
Near at (Err f) = Unit {0}

-- a row leaves the scan at the next place, or where it was
unless_near : (c : Check) (s t : Scanned) (m : ℕ) → s.at ≤ m → t.at ≤ m → (unless_failed c s t).at ≤ m
unless_near (Ok _) s t m h k = k
unless_near (Err j) s t m h k = h

taken_near : (n row : ℕ) (s : Scanned) (x : Result Number NumberFault) (m : ℕ) → Near s.at x → s.at + 2 ≤ m → (taken n row s x).at ≤ m
unfolding taken judged
taken_near n row s (Ok x) m h k =
    unless_near (checked row (set s.numbers row x.value)) s (with_number row s x.value x.next) m (omega arith) (omega arith)
taken_near n row s (Err f) m h k = omega arith

more_near : (n : ℕ) (source : Source) (row : ℕ) (s : Scanned) (m : ℕ) → ((row at : ℕ) → Near at (source row at)) → s.at + 2 ≤ m
    → (more n source row s).at ≤ m
unfolding more
more_near n source row s m near h =
    either (λ (x : Scanned). x.at ≤ m) (done s.result && stands row s.numbers) (taken_near n row s (source row s.at) m (near row s.at) h)
    (omega arith)

pub at_most : (n : ℕ) (source : Source) → ((row at : ℕ) → Near at (source row at)) → (k : ℕ) → (scan n source k).at ≤ 2 * k
unfolding scan
at_most n source near zero = omega arith
at_most n source near (suc k) = more_near n source k (scan n source k) (2 * suc k) near (let e = at_most n source near k in omega arith)

-- the numbers of an image are near
pub image_near : (s : List ℕ) (row at : ℕ) → Near at (from_image s row at)
unfolding number_at first_byte second_byte
image_near s row at =
    either (Near at) (ltb at (length s))
    (either (Near at) (ltb (get_or s at 0) 128) (omega arith)
    (either (Near at) (ltb (at + 1) (length s))
    (either (Near at) (eqb (get_or s (at + 1) 0) 0) tt (either (Near at) (ltb (get_or s (at + 1) 0) 128) (omega arith) tt))
    tt))
    tt

-- ---- row k leaves every number but number k as it was

-- t has the numbers of s, but for number row
abbrev Differs : ℕ → Scanned → Scanned → Type 0
Differs row s t = t.numbers ≡ set s.numbers row (get_or t.numbers row 0)

same_differs : (row : ℕ) (s t : Scanned) → t.numbers ≡ s.numbers → Differs row s t
same_differs row s t e = e ∙ sym (set-get_or s.numbers row 0) ∙ ap (λ (l : List ℕ). set s.numbers row (get_or l row 0)) (sym e)

set_differs : (row v next : ℕ) (s : Scanned) → Differs row s (with_number row s v next)
set_differs row v next s = let l = set s.numbers row v in sym (set-get_or l row 0) ∙ set-set s.numbers row v (get_or l row 0)

unless_differs : (c : Check) (row v next : ℕ) (s : Scanned) → Differs row s (unless_failed c s (with_number row s v next))
unless_differs (Ok _) row v next s = set_differs row v next s
unless_differs (Err k) row v next s = same_differs row s (unless_failed (Err k) s (with_number row s v next)) refl

taken_differs : (n row : ℕ) (s : Scanned) (x : Result Number NumberFault) → Differs row s (taken n row s x)
unfolding taken judged
taken_differs n row s (Ok x) = unless_differs (checked row (set s.numbers row x.value)) row x.value x.next s
taken_differs n row s (Err f) = same_differs row s (taken n row s (Err f)) refl

more_differs : (n : ℕ) (source : Source) (row : ℕ) (s : Scanned) → Differs row s (more n source row s)
unfolding more
more_differs n source row s =
    either (Differs row s) (done s.result && stands row s.numbers) (taken_differs n row s (source row s.at)) (same_differs row s s refl)

module _ (n : ℕ) (source : Source) where
  -- number k, as row k leaves it
  abbrev pub value : ℕ → ℕ
  value k = get_or (scan n source (suc k)).numbers k 0

  pub stored : (k : ℕ) → (scan n source (suc k)).numbers ≡ set (scan n source k).numbers k (value k)
  unfolding scan
  stored k = more_differs n source k (scan n source k)

  -- a scan has as many numbers as any format
  pub scan_long : (k : ℕ) → length (scan n source k).numbers ≡ row_count
  unfolding scan
  scan_long zero = length-replicate {A = ℕ} row_count 0
  scan_long (suc k) = ap length (stored k) ∙ length-set (scan n source k).numbers k (value k) ∙ scan_long k

  -- those that the first k rows left
  pub number_is : (k j : ℕ) → j < k → get_or (scan n source k).numbers j 0 ≡ value j
  number_is zero j l = absurd (omega arith)
  number_is (suc k) j l =
      below_more (λ (i : ℕ). get_or (scan n source (suc k)).numbers i 0 ≡ value i) k
      (λ i u.
      ap (λ (x : List ℕ). get_or x i 0) (stored k) ∙ get_or-set_other (scan n source k).numbers k i (value k) 0 (λ q. absurd (omega arith))
      ∙ number_is k i u)
      refl
      j (omega arith)

  -- and 0 behind them
  pub zero_past : (k j : ℕ) → k ≤ j → get_or (scan n source k).numbers j 0 ≡ 0
  unfolding scan
  zero_past zero j l = zeros row_count j
    where
      zeros : (m i : ℕ) → get_or {A = ℕ} (replicate m 0) i 0 ≡ 0
      zeros m i =
          by i m (get_or-replicate {A = ℕ} m i 0 0) (λ u. get_or-eq_default {A = ℕ} (replicate m 0) 0 (let e = length-replicate {A = ℕ} m 0 in omega arith))
  zero_past (suc k) j l =
      ap (λ (x : List ℕ). get_or x j 0) (stored k) ∙ get_or-set_other (scan n source k).numbers k j (value k) 0 (λ q. absurd (omega arith))
      ∙ zero_past k j (omega arith)

  -- whether a number stands is known before its row, and stays so
  pub stands_then : (k m : ℕ) → k ≤ m → stands k (scan n source m).numbers ≡ stands k (scan n source k).numbers
  stands_then k m l =
      stands_back (scan n source m).numbers (scan n source k).numbers k (λ j u _. number_is m j (omega arith) ∙ sym (number_is k j u))

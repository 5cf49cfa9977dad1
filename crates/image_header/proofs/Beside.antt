-- What the code holds of a scan, the header's numbers in a struct and the landing blocks in an array beside it, goes on as the scan does.
use Rattle.std.specs.Prelude.{Ok, Err}
use mathlib.Core.Path.{◌≡◌, refl, sym, ap, ◌∙◌, subst}
use mathlib.Core.Bool.{Bool, true, false, ◌&&◌, ◌||◌, cond}
use mathlib.Core.List.{List, [], ◌∷◌, ◌++◌}
use Prim.Native.Nat.{ℕ, zero, suc, ◌+◌, ◌-◌, ◌<◌, ◌≤◌}
use native.Mathlib.Omega.{arith}
use native.Mathlib.Nat.{zero-add, add-zero, suc-add}
use lib.ListN.{length, get_or, set, length-append, length-set, get_or-append}
use lib.Seq.{set-append_left, get_or-append-add, get_or-set_same, get_or-set_other, drop_at}
use lib.Dec.{eqb, ltb}
use borrow.Author.Tests.{ltb-false, eq-eqb, ne_eqb, lt-ltb, le-ltb}
use Rattle.logic.proofs.Choice.{by}
use Rattle.limits.specs.Limits.{most_landings}
use Rattle.std.specs.Prelude.{Result, Ok, Err}
use Rattle.image_result.specs.ImageResult.{done}
use Rattle.image_result.specs.declared.ImageFault.TheVariants.{BadLanding}
use Rattle.image_number.specs.Number.{number_bytes}
use Rattle.image_number.specs.declared.Number.{Number}
use Rattle.image_number.specs.declared.NumberFault.{NumberFault}
use Rattle.image_header.specs.Numbers.{header_from, Narrow}
use Rattle.image_header.specs.GoodHeader.{GoodHeader}
use Rattle.image_header.specs.Rows.{header_count, landing_count_row, row_count, landings_from, landing_fits, stands, Check, checked}
use Rattle.image_header.specs.Scan.{Source, Scanned, stopped, with_number, stands_at, out_of_range, unless_failed, judged, taken, more, scan}
use Rattle.image_header.specs.Scan.{read_with, closed, beside, alone}
use Rattle.image_header.specs.declared.reader.Scan.{Scan}
use Rattle.image_header.proofs.Numbers.{same_numbers}
use Rattle.image_header.proofs.Rows.{landing_row, landing_stands, looks_back, stands_back, header_row, blames}
use Rattle.image_header.proofs.Accepted.{accepted_header, good_narrow}
use Rattle.image_header.proofs.Scanning.{stays, takes, next_row, same_place, scan_long}

-- ---- the rows of a header look at its own numbers alone

-- a scan with l behind its numbers
abbrev pub with : Scanned → List ℕ → Scanned
with s l = record { result = s.result; numbers = s.numbers ++ l; at = s.at }

module _ (l : List ℕ) where
  unless_with : (c : Check) (s t : Scanned) → ((k : ℕ) → c ≡ Err k → stands_at (t.numbers ++ l) k ≡ stands_at t.numbers k)
      → unless_failed c (with s l) (with t l) ≡ with (unless_failed c s t) l
  unless_with (Ok _) s t e = refl
  unless_with (Err k) s t e = ap (λ (p : ℕ). stopped (out_of_range k p) (with s l)) (e k refl)

  module _ (ns : List ℕ) (long : length ns ≡ header_count) where
    -- the header's numbers stand at the front
    pub front_number : (k : ℕ) → k < header_count → get_or (ns ++ l) k 0 ≡ get_or ns k 0
    front_number k u = get_or-append ns l 0 k (omega arith)

    pub front_place : (k : ℕ) → k ≤ header_count → stands_at (ns ++ l) k ≡ stands_at ns k
    front_place k u = same_place (ns ++ l) ns k (λ j v. front_number j (omega arith))

    pub front_header : header_from (ns ++ l) ≡ header_from ns
    front_header = same_numbers (ns ++ l) ns front_number

    front_checked : (row : ℕ) → row < header_count → checked row (ns ++ l) ≡ checked row ns
    front_checked row u = looks_back (ns ++ l) ns row (λ k v. front_number k (omega arith))

    -- they tell which numbers stand
    pub front_stands : (row : ℕ) → stands row (ns ++ l) ≡ stands row ns
    front_stands row = stands_back (ns ++ l) ns row (λ k _ v. front_number k v)

  module _ (row : ℕ) (u : row < header_count) (s : Scanned) (long : length s.numbers ≡ header_count) where
    pub judged_with : (v next : ℕ) → judged row (with s l) v next ≡ with (judged row s v next) l
    unfolding judged
    judged_with v next =
        let ns = set s.numbers row v in
        let e : set (s.numbers ++ l) row v ≡ ns ++ l = set-append_left s.numbers l row v (omega arith) in
        let m : length ns ≡ header_count = length-set s.numbers row v ∙ long in
        rw (e, front_checked ns m row u)
        (unless_with (checked row ns) s (with_number row s v next)
        (λ k q. front_place ns m k (let b = blames (header_from ns) row k (sym (header_row row ns u) ∙ q) in omega arith)))

    taken_with : (n : ℕ) (x : Result Number NumberFault) → taken n row (with s l) x ≡ with (taken n row s x) l
    unfolding taken
    taken_with n (Ok x) = judged_with x.value x.next
    taken_with n (Err f) = refl

    more_with : (n : ℕ) (source : Source) → more n source row (with s l) ≡ with (more n source row s) l
    unfolding more
    more_with n source = rw (front_stands s.numbers long row) (go (done s.result && stands row s.numbers))
      where
        go : (t : Bool) → cond t (taken n row (with s l) (source row s.at)) (with s l) ≡ with (cond t (taken n row s (source row s.at)) s) l
        go true = taken_with n (source row s.at)
        go false = refl

-- one number more of the header, beside the landing list
module _ (n : ℕ) (source : Source) (row : ℕ) (s r : Scan) (l : List ℕ) where
  pub header_goes_on : row < header_count → length s.numbers ≡ header_count → alone r ≡ more n source row (alone s)
      → beside r l ≡ more n source row (beside s l)
  header_goes_on u long e = ap (λ (t : Scanned). with t l) e ∙ sym (more_with l row u (alone s) long n source)

-- whether a number comes next is told by the header's numbers
pub comes_next : (s : Scan) → length s.numbers ≡ header_count → (l : List ℕ) (row : ℕ) (t : Bool) → (done s.result && stands row s.numbers) ≡ t
    → (done s.result && stands row (s.numbers ++ l)) ≡ t
comes_next s long l row t e = rw (front_stands l s.numbers long row) e

-- what is beside a landing list in a scan is a header's numbers
pub header_long : (t : Scanned) → length t.numbers ≡ row_count → (s : Scan) (l : List ℕ) → length l ≡ most_landings → beside s l ≡ t
    → length s.numbers ≡ header_count
header_long t all s l m e =
    let a = length-append s.numbers l in
    let b : length (s.numbers ++ l) ≡ row_count = ap (λ (x : Scanned). length x.numbers) e ∙ all in
    omega arith

-- ---- landing block i is number header_count + i

set_behind : (xs ys : List ℕ) (i v : ℕ) → set (xs ++ ys) (length xs + i) v ≡ xs ++ set ys i v
set_behind [] ys i v = rw zero-add
set_behind (x ∷ xs) ys i v = rw (suc-add (length xs) i) (ap (λ (l : List ℕ). x ∷ l) (set_behind xs ys i v))

module _ (ns : List ℕ) (long : length ns ≡ header_count) (l : List ℕ) (i : ℕ) where
  behind_set : (v : ℕ) → set (ns ++ l) (header_count + i) v ≡ ns ++ set l i v
  behind_set v = rw long at (set_behind ns l i v)

  pub behind_number : get_or (ns ++ l) (header_count + i) 0 ≡ get_or l i 0
  behind_number = rw long at (get_or-append-add ns l i 0)

  behind_stands : stands (header_count + i) (ns ++ l) ≡ ltb i (get_or ns landing_count_row 0)
  behind_stands = front_stands l ns long (header_count + i) ∙ landing_stands i ns

  behind_checked : checked (header_count + i) (ns ++ l) ≡ cond (landing_fits (get_or ns 5 0) l i) (Ok tt) (Err (header_count + i))
  behind_checked = landing_row i (ns ++ l) ∙ rw (front_number l ns long 5 (omega arith), drop_at ns l header_count long)

-- the bytes of the first j landing blocks
unfoldable pub landing_bytes : List ℕ → ℕ → ℕ
landing_bytes l zero = 0
landing_bytes l (suc j) = landing_bytes l j + length (number_bytes (get_or l j 0))

-- where those that are listed end
pub landing_place : (ns : List ℕ) → length ns ≡ header_count → (l : List ℕ) (j : ℕ) → j ≤ get_or ns landing_count_row 0
    → stands_at (ns ++ l) (header_count + j) ≡ stands_at ns header_count + landing_bytes l j
unfolding stands_at landing_bytes
landing_place ns long l zero u = front_place l ns long header_count (omega arith) ∙ sym (add-zero (stands_at ns header_count))
landing_place ns long l (suc j) u =
    let q : header_count + suc j ≡ suc (header_count + j) = omega arith in
    let e = landing_place ns long l j (omega arith) in
    rw (q, behind_stands ns long l j, lt-ltb j (get_or ns landing_count_row 0) u, behind_number ns long l j) (omega arith)

-- ---- a landing block judged

-- what its test asks of it and of the one before it
fits_beside : (count : ℕ) (l : List ℕ) (i v : ℕ) → i < length l
    → landing_fits count (set l i v) i ≡ (ltb v count && (eqb i 0 || ltb (cond (eqb i 0) 0 (get_or l (i - 1) 0)) v))
fits_beside count l i v u =
    rw (get_or-set_same l i v 0 u)
    (by 0 i
    (λ p.
    let z : i ≡ 0 → ⊥ = λ q. omega arith in
    let w : i - 1 ≡ i → ⊥ = λ q. omega arith in
    rw (ne_eqb i 0 z, get_or-set_other l i (i - 1) v 0 w))
    (λ p. let z : i ≡ 0 = omega arith in rw (eq-eqb i 0 z)))

pub fits_told : (count : ℕ) (l : List ℕ) (i v before : ℕ) (t : Bool) → i < length l → before ≡ cond (eqb i 0) 0 (get_or l (i - 1) 0)
    → t ≡ (ltb v count && (eqb i 0 || ltb before v)) → landing_fits count (set l i v) i ≡ t
fits_told count l i v before t u b e = fits_beside count l i v u ∙ rw (e, b)

module _ (s : Scan) (long : length s.numbers ≡ header_count) (l : List ℕ) (i v next : ℕ) where
  pub landing_passes : landing_fits (get_or s.numbers 5 0) (set l i v) i ≡ true
      → judged (header_count + i) (beside s l) v next ≡ record { result = Ok tt; numbers = s.numbers ++ set l i v; at = next }
  unfolding judged
  landing_passes e = rw (behind_set s.numbers long l i v, behind_checked s.numbers long (set l i v) i, e)

  pub landing_fails : landing_fits (get_or s.numbers 5 0) (set l i v) i ≡ false
      → judged (header_count + i) (beside s l) v next ≡ stopped (Err (BadLanding (stands_at (s.numbers ++ l) (header_count + i)))) (beside s l)
  unfolding judged
  landing_fails e =
      let p : stands_at (set (s.numbers ++ l) (header_count + i) v) (header_count + i) ≡ stands_at (s.numbers ++ l) (header_count + i) =
      same_place (set (s.numbers ++ l) (header_count + i) v) (s.numbers ++ l) (header_count + i)
      (λ j u. get_or-set_other (s.numbers ++ l) (header_count + i) j v 0 (λ q. absurd (omega arith))) in
      let c : checked (header_count + i) (set (s.numbers ++ l) (header_count + i) v) ≡ Err (header_count + i) =
      ap (checked (header_count + i)) (behind_set s.numbers long l i v) ∙ behind_checked s.numbers long (set l i v) i ∙ rw e in
      rw (c, p, le-ltb (header_count + i) landing_count_row (omega arith))

-- ---- where no landing block comes next, the scan is over

module _ (n : ℕ) (source : Source) (i : ℕ) where
  over_by : (d : ℕ) → (done (scan n source (header_count + i)).result && stands (header_count + i) (scan n source (header_count + i)).numbers) ≡ false
      → scan n source (header_count + i + d) ≡ scan n source (header_count + i)
  unfolding scan
  over_by zero e = let q : header_count + i + 0 ≡ header_count + i = omega arith in rw q
  over_by (suc d) e =
      let s = scan n source (header_count + i) in
      let q : header_count + i + suc d ≡ suc (header_count + i + d) = omega arith in
      let h : (done s.result && stands (header_count + i + d) s.numbers) ≡ false = no_more (done s.result) s.numbers e in
      rw q (ap (more n source (header_count + i + d)) (over_by d e) ∙ stays n source (header_count + i + d) s h)
    where
      no_more : (t : Bool) (ns : List ℕ) → (t && stands (header_count + i) ns) ≡ false → (t && stands (header_count + i + d) ns) ≡ false
      no_more false ns h = refl
      no_more true ns h =
          let f = ltb-false i (get_or ns 6 0) (sym (landing_stands i ns) ∙ h) in
          let p : header_count + i + d ≡ header_count + (i + d) = omega arith in
          rw p (landing_stands (i + d) ns ∙ le-ltb (i + d) (get_or ns 6 0) (omega arith))

  scan_over : i ≤ most_landings
      → (done (scan n source (header_count + i)).result && stands (header_count + i) (scan n source (header_count + i)).numbers) ≡ false
      → scan n source (header_count + i) ≡ scan n source row_count
  scan_over u e = let q : header_count + i + (most_landings - i) ≡ row_count = omega arith in sym (rw q at (over_by (most_landings - i) e))

  -- the code, where it has passed i landing blocks
  module _ (s : Scan) (l : List ℕ) (long : length l ≡ most_landings) (is : beside s l ≡ scan n source (header_count + i)) where
    is_next : (t : Bool) → (done s.result && stands (header_count + i) s.numbers) ≡ t
        → (done s.result && stands (header_count + i) (s.numbers ++ l)) ≡ t
    is_next = comes_next s (header_long (scan n source (header_count + i)) (scan_long n source (header_count + i)) s l long is) l (header_count + i)

    pub landings_over : i ≤ most_landings → (done s.result && stands (header_count + i) s.numbers) ≡ false → beside s l ≡ scan n source row_count
    landings_over u e =
        is ∙ scan_over u (subst (λ (x : Scanned). (done x.result && stands (header_count + i) x.numbers) ≡ false) is (is_next false e))

    pub landing_goes_on : (done s.result && stands (header_count + i) s.numbers) ≡ true → (r : Scan) (m : List ℕ)
        → beside r m ≡ taken n (header_count + i) (beside s l) (source (header_count + i) s.at) → beside r m ≡ scan n source (header_count + (i + 1))
    landing_goes_on e r m q =
        let p : header_count + i + 1 ≡ header_count + (i + 1) = omega arith in
        next_row n source (header_count + i) (beside s l) (beside r m) is
        (q ∙ sym (takes n source (header_count + i) (beside s l) (is_next true e) _ refl))
        ∙ ap (scan n source) p

-- ---- what the code holds when all numbers are passed

module _ (n : ℕ) (source : Source) (s : Scan) (l : List ℕ) (long : length l ≡ most_landings) (is : beside s l ≡ scan n source row_count) where
  seven : length s.numbers ≡ header_count
  seven = header_long (scan n source row_count) (scan_long n source row_count) s l long is

  own_header : header_from (s.numbers ++ l) ≡ header_from s.numbers
  own_header = front_header l s.numbers seven

  -- the header's numbers fit their widths, where none was refused
  pub numbers_narrow : done s.result ≡ true → Narrow s.numbers
  numbers_narrow d =
      let ok = ap (λ (x : Scanned). done x.result) (sym is) ∙ d in
      let same : header_from (scan n source row_count).numbers ≡ header_from s.numbers = ap (λ (x : Scanned). header_from x.numbers) (sym is) ∙ own_header in
      good_narrow s.numbers (subst GoodHeader same (accepted_header n source ok).good)

  -- they are all that the rest is judged by
  pub closed_alone : (m : ℕ) → closed (alone s) m ≡ closed (scan n source row_count) m
  unfolding closed read_with
  closed_alone m = sym (ap (λ (x : Scanned). closed x m) (sym is) ∙ rw (own_header, front_number l s.numbers seven 5 (omega arith)))

  pub landings_are : l ≡ landings_from (scan n source row_count).numbers
  landings_are = sym (drop_at s.numbers l header_count seven) ∙ ap (λ (x : Scanned). landings_from x.numbers) is

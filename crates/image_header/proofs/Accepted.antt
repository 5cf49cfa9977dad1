-- What was read of an image whose numbers were accepted: each that stands stood where the scan was, the scan holds them all, and load accepts their header and
-- their landing list.
use mathlib.Core.Path.{◌≡◌, refl, sym, ap, ◌∙◌}
use mathlib.Core.Bool.{Bool, true, false}
use mathlib.Core.Logic.{⊎_elim}
use mathlib.Core.List.{List}
use Prim.Native.Nat.{ℕ, zero, suc, ◌+◌, ◌<◌, ◌≤◌}
use native.Mathlib.Omega.{arith}
use lib.ListN.{get_or, set, length-drop}
use lib.Seq.{get_or-set_same, get_or-drop}
use lib.Dec.{eqb, ltb}
use borrow.Author.Count.{below_more}
use borrow.Author.Tests.{eqb-true, eqb-false, eq-eqb, lt-ltb, le-ltb, le-leb}
use Rattle.std.specs.Prelude.{Result, Ok, Err}
use Rattle.image_result.specs.ImageResult.{done}
use Rattle.image_number.specs.Number.{read_as}
use Rattle.image_number.specs.declared.NumberFault as fault
use Rattle.image_result.specs.ImageResult.{ImageResult}
use Rattle.image_number.specs.declared.Number.{Number}
use Rattle.image_number.specs.declared.NumberFault.{NumberFault}
use Rattle.logic.proofs.Choice.{by, test, either, first_way, clash}
use Rattle.limits.specs.Limits.{most_landings}
use Rattle.drive.specs.Types.{slot_b, slot_c}
use Rattle.drive.proofs.EveryDrive.{board_small}
use Rattle.logic.proofs.Each.{all_pass}
use Rattle.image_header.specs.Numbers.{header_from, Narrow}
use Rattle.image_header.specs.GoodHeader.{GoodHeader, GoodLandings}
use Rattle.image_header.specs.Rows.{most_of, header_count, landing_count_row, row_count, landings_from, landing_fits, stands, Check, header_checked, checked, passed}
use Rattle.image_header.specs.Rows.{accepts, entry_fits, accepts_landings}
use Rattle.image_header.specs.Scan.{Source, Scanned, with_number, out_of_range, unless_failed, fault_result, judged, taken, scan}
use Rattle.image_header.proofs.Rows.{most_of_lem, accepted_good, landings_accepted, header_row, landing_row, header_stands, landing_stands, looks_back}
use Rattle.image_header.proofs.Scanning.{stays, takes, value, scan_long, number_is, zero_past, stands_then}

module _ (n : ℕ) (source : Source) where
  -- where the scan is after k rows
  abbrev pub place : ℕ → ℕ
  place k = (scan n source k).at

  -- whether number k stands
  abbrev pub standing : ℕ → Bool
  standing k = stands k (scan n source k).numbers

  -- number k stands where the scan was, and the scan went behind it
  abbrev pub Stood : ℕ → Type 0
  Stood k = source k (place k) ≡ read_as (value n source k) (place (suc k))

  -- number k was accepted, or passed over
  pub record Went (k : ℕ) : Type 0 where
    pub before : done (scan n source k).result ≡ true
    pub stood : standing k ≡ true → Stood k
    pub row : standing k ≡ true → checked k (scan n source (suc k)).numbers ≡ Ok tt
    pub over : standing k ≡ false → scan n source (suc k) ≡ scan n source k

  -- a row that let pass left the scan with the number with_number
  kept : (k v next : ℕ) (c : Check) → checked k (set (scan n source k).numbers k v) ≡ c
      → scan n source (suc k) ≡ unless_failed c (scan n source k) (with_number k (scan n source k) v next) → done (scan n source (suc k)).result ≡ true
      → (c ≡ Ok tt) × (scan n source (suc k) ≡ with_number k (scan n source k) v next)
  kept k v next (Ok _) q e h = (refl, e)
  kept k v next (Err j) q e h = clash (sym h ∙ ap (λ (s : Scanned). done s.result) e ∙ no_done j _)
    where
      no_done : (j p : ℕ) → done (out_of_range j p) ≡ false
      no_done j p = either (λ (o : ImageResult). done o ≡ false) (ltb j landing_count_row) refl refl

  went_by : (k : ℕ) → k < row_count → (t u : Bool) → done (scan n source k).result ≡ t → standing k ≡ u → (x : Result Number NumberFault) → source k (place k) ≡ x
      → done (scan n source (suc k)).result ≡ true → Went k
  unfolding scan taken judged
  went_by k l false u d e x g h =
      let s = scan n source k in clash (sym h ∙ ap (λ (r : Scanned). done r.result) (stays n source k s (rw d)) ∙ d)
  went_by k l true false d e x g h =
      let s = scan n source k in
      record { before = d; stood = λ q. clash (sym q ∙ e); row = λ q. clash (sym q ∙ e); over = λ q. stays n source k s (rw (d, e)) }
  went_by k l true true d e (Ok x) g h =
      let s = scan n source k in
      let v = x.value in
      let next = x.next in
      let r = kept k v next (checked k (set s.numbers k v)) refl (takes n source k s (rw (d, e)) (Ok x) g) h in
      let numbers : (scan n source (suc k)).numbers ≡ set s.numbers k v = ap (λ (x : Scanned). x.numbers) r.1 in
      let long = scan_long n source k in
      let same : v ≡ value n source k = sym (ap (λ (x : List ℕ). get_or x k 0) numbers ∙ get_or-set_same s.numbers k v 0 (omega arith)) in
      record {
        before = d;
        stood = λ _. g ∙ (λ ι. read_as (same ι) (sym (ap (λ (x : Scanned). x.at) r.1) ι));
        row = λ _. ap (checked k) numbers ∙ r.0;
        over = λ q. clash (sym e ∙ q);
      }
  went_by k l true true d e (Err f) g h =
      clash (sym h ∙ ap (λ (s : Scanned). done s.result) (takes n source k (scan n source k) (rw (d, e)) (Err f) g) ∙ faulty f)
    where
      faulty : (f : NumberFault) → done (fault_result f n (scan n source k).at) ≡ false
      faulty fault.NumberFault.EndsEarly = refl
      faulty fault.NumberFault.NotShortest = refl

  -- so was each before it
  pub went : (k : ℕ) → k ≤ row_count → done (scan n source k).result ≡ true → (j : ℕ) → j < k → Went j
  went zero m h j l = absurd (omega arith)
  went (suc k) m h j l =
      let w = went_by k (omega arith) (done (scan n source k).result) (standing k) refl refl (source k (place k)) refl h in
      below_more Went k (went k (omega arith) w.before) w j (omega arith)

  -- ---- all numbers

  abbrev all : List ℕ
  all = (scan n source row_count).numbers

  -- what holds of accepted numbers
  pub record Accepted : Type 0 where
    pub good : GoodHeader (header_from all)
    pub landings : GoodLandings (header_from all) (landings_from all)
    pub numbers : (k : ℕ) → k < row_count → stands k all ≡ true → Stood k
    pub over : (k : ℕ) → k < row_count → stands k all ≡ false → scan n source (suc k) ≡ scan n source k
    pub absent : (k : ℕ) → k < row_count → stands k all ≡ false → get_or all k 0 ≡ 0
    pub fine : (k : ℕ) → k < row_count → done (scan n source k).result ≡ true

  module _ (h : done (scan n source row_count).result ≡ true) where
    each : (k : ℕ) → k < row_count → Went k
    each = went row_count (omega arith) h

    -- whether a number stands, by all of them
    then : (k : ℕ) (t : Bool) → k < row_count → stands k all ≡ t → standing k ≡ t
    then k t l e = sym (stands_then n source k row_count (omega arith)) ∙ e

    -- one that does not is 0
    not_there : (k : ℕ) → k < row_count → stands k all ≡ false → get_or all k 0 ≡ 0
    not_there k l e =
        number_is n source row_count k l ∙ ap (λ (s : Scanned). get_or s.numbers k 0) ((each k l).over (then k false l e))
        ∙ zero_past n source k k (omega arith)

    -- a row that let pass when its number was read lets all of them pass
    row_passes : (row : ℕ) → row < row_count → stands row all ≡ true → checked row all ≡ Ok tt
    row_passes row l e =
        looks_back all (scan n source (suc row)).numbers row
        (λ k u. number_is n source row_count k (omega arith) ∙ sym (number_is n source (suc row) k (omega arith)))
        ∙ (each row l).row (then row true l e)

    -- of a header's numbers the landing count alone may not stand, and is then 0, which every format lets pass
    no_count : get_or all landing_count_row 0 ≡ 0 → passed (header_checked landing_count_row (header_from all)) ≡ true
    unfolding header_checked
    no_count z = rw (le-leb (get_or all landing_count_row 0) (most_of (get_or all 0 0)) (omega arith))

    header_passes : (row : ℕ) → row < header_count → passed (header_checked row (header_from all)) ≡ true
    header_passes row l =
        test (stands row all)
        (λ e. ap passed (sym (header_row row all l) ∙ row_passes row (omega arith) e))
        (λ e. test (eqb row landing_count_row)
        (λ q.
        let r = eqb-true row landing_count_row q in
        let z : get_or all landing_count_row 0 ≡ 0 = rw r at (not_there row (omega arith) e) in
        rw r (no_count z))
        (λ q. clash (sym (header_stands row all l (eqb-false row landing_count_row q)) ∙ e)))

    good : GoodHeader (header_from all)
    unfolding accepts
    good = accepted_good (header_from all) (all_pass (λ (row : ℕ). passed (header_checked row (header_from all))) header_count header_passes)

    entry_passes : (i : ℕ) → i < most_landings → entry_fits (header_from all) (landings_from all) i ≡ true
    entry_passes i l =
        by i (header_from all).landings
        (λ u. rw (lt-ltb i (header_from all).landings u) (listed u))
        (λ u. rw (le-ltb i (header_from all).landings u) (eq-eqb (get_or (landings_from all) i 0) 0 (past u)))
      where
        listed : i < (header_from all).landings → landing_fits (header_from all).count (landings_from all) i ≡ true
        listed u =
            (first_way passed (landing_fits (header_from all).count (landings_from all) i) refl
            (ap passed (sym (landing_row i all) ∙ row_passes (header_count + i) (omega arith) (landing_stands i all ∙ lt-ltb i (header_from all).landings u)))
            ).0

        past : (header_from all).landings ≤ i → get_or (landings_from all) i 0 ≡ 0
        past u =
            get_or-drop header_count all i 0
            ∙ not_there (header_count + i) (omega arith) (landing_stands i all ∙ le-ltb i (header_from all).landings u)

    good_landings : GoodLandings (header_from all) (landings_from all)
    unfolding accepts_landings
    good_landings =
        let m = most_of_lem (header_from all).format in
        let g = good.landings in
        landings_accepted (header_from all) (landings_from all) (length-drop header_count all ∙ (let e = scan_long n source row_count in omega arith)) (omega arith)
        (all_pass (entry_fits (header_from all) (landings_from all)) most_landings entry_passes)

    pub accepted_header : Accepted
    accepted_header =
        record {
          good = good;
          landings = good_landings;
          numbers = λ k l e. (each k l).stood (then k true l e);
          over = λ k l e. (each k l).over (then k false l e);
          absent = not_there;
          fine = λ k l. (each k l).before;
        }

-- the numbers of a header that load accepts fit their widths
pub good_narrow : (ns : List ℕ) → GoodHeader (header_from ns) → Narrow ns
good_narrow ns g =
    let m = g.model in
    let b = board_small slot_b _ _ g.board_b in
    let c = board_small slot_c _ _ g.board_c in
    let k = g.count.1 in
    let s = g.start in
    let l = g.landings in
    let most = most_of_lem (header_from ns).format in
    record {
      format = ⊎_elim (λ f. omega arith) (λ f. omega arith) g.format;
      model = omega arith;
      b = omega arith;
      c = omega arith;
      start = omega arith;
      count = omega arith;
      landings = omega arith;
    }

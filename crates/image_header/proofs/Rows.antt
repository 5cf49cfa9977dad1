-- A header and a landing list that load accepts are those whose numbers are each in its range; and whether a number stands, and what its row finds, hangs on no
-- number behind it.
use Prim.Native.Nat.{ℕ, zero, suc, ◌+◌, ◌-◌, ◌<◌, ◌≤◌}
use native.Mathlib.Omega.{arith}
use mathlib.Core.Path.{◌≡◌, refl, sym, ap, ◌∙◌}
use mathlib.Core.Bool.{Bool, true, false, ◌&&◌, ◌||◌, cond}
use mathlib.Core.Logic.{◌⊎◌, inl, inr}
use mathlib.Core.List.{List, [], ◌∷◌}
use lib.ListN.{length, get_or, get_or-eq_default}
use lib.Seq.{get_or-drop}
use lib.Dec.{eqb, ltb, leb}
use borrow.Author.Tests.{eqb-true, ltb-true, leb-true, eq-eqb, ne_eqb, lt-ltb, le-ltb, le-leb}
use Rattle.std.specs.Prelude.{Ok, Err}
use Rattle.logic.specs.Each.{each_below}
use Rattle.logic.proofs.Each.{each_passes, all_pass}
use Rattle.limits.specs.Limits.{most_blocks, most_landings}
use Rattle.drive.specs.Types.{types}
use Rattle.logic.proofs.Choice.{by, test, both, or_is, or_right, either, clash}
use Rattle.image_header.specs.Numbers.{header_from}
use Rattle.image_header.specs.GoodHeader.{GoodHeader, GoodLandings}
use Rattle.image_header.specs.Rows as rows
use Rattle.image_header.specs.Rows.{format1, format2, most_of, format_fits, type_fits, slot_b_fits, slot_c_fits, count_fits, start_fits, landing_count_fits}
use Rattle.image_header.specs.Rows.{landing_fits, Test, header_count, landing_count_row, landings_from, stands, Check, check, header_checked, checked, passed, accepts}
use Rattle.image_header.specs.Rows.{entry_fits, accepts_landings}
use Rattle.image_header.specs.declared.Header.{Header}

-- ---- one test

-- a test that lets pass holds, and what comes behind it lets pass too
pub held : (t : Test) (ts : List Test) (h : Header) → passed (check (t ∷ ts) h) ≡ true → (t.fits h ≡ true) × (passed (check ts h) ≡ true)
held t ts h e = go (t.fits h) refl
  where
    go : (b : Bool) → t.fits h ≡ b → (t.fits h ≡ true) × (passed (check ts h) ≡ true)
    go true q = (q, rw q at e)
    go false q = clash (sym (rw q at e))

pub is_passed : (c : Check) → passed c ≡ true → c ≡ Ok tt
is_passed (Ok _) e = refl
is_passed (Err k) e = clash (sym e)

-- no format has more landing blocks than the most
pub most_of_lem : (format : ℕ) → most_of format ≤ most_landings
most_of_lem format = either (λ (n : ℕ). n ≤ most_landings) (eqb format format2) (omega arith) (omega arith)

-- ---- every row of a header

-- the formats that there are
one_of : (format : ℕ) → (eqb format format1 || eqb format format2) ≡ true → (format ≡ format1) ⊎ (format ≡ format2)
one_of format e = go (or_is (eqb format format1) (eqb format format2) e)
  where
    go : (eqb format format1 ≡ true) ⊎ (eqb format format2 ≡ true) → (format ≡ format1) ⊎ (format ≡ format2)
    go (inl q) = inl (eqb-true format format1 q)
    go (inr q) = inr (eqb-true format format2 q)

is_one : (format : ℕ) → (format ≡ format1) ⊎ (format ≡ format2) → (eqb format format1 || eqb format format2) ≡ true
is_one format (inl q) = rw (eq-eqb format format1 q)
is_one format (inr q) = rw (eq-eqb format format2 q) (or_right (eqb format format1))

module _ (h : Header) where
  pub accepted_good : accepts h ≡ true → GoodHeader h
  unfolding accepts header_checked
  accepted_good e =
      let at = each_passes (λ (row : ℕ). passed (header_checked row h)) header_count e in
      let f = (held (rows.test 0 format_fits) [] h (at 0 (omega arith))).0 in
      let m = (held (rows.test 1 type_fits) [] h (at 1 (omega arith))).0 in
      let b = (held (rows.test 2 slot_b_fits) [] h (at 2 (omega arith))).0 in
      let c = (held (rows.test 3 slot_c_fits) [] h (at 3 (omega arith))).0 in
      let k = held (rows.test 5 count_fits) (rows.test 4 start_fits ∷ []) h (at 5 (omega arith)) in
      let s = (held (rows.test 4 start_fits) [] h k.1).0 in
      let l = (held (rows.test 6 landing_count_fits) [] h (at 6 (omega arith))).0 in
      let r = both (ltb 0 h.count) (leb h.count most_blocks) k.0 in
      record {
        format = one_of h.format f;
        model = ltb-true h.drive.model types m;
        board_b = b;
        board_c = c;
        count = (ltb-true 0 h.count r.0, leb-true h.count most_blocks r.1);
        start = ltb-true h.start h.count s;
        landings = leb-true h.landings (most_of h.format) l;
      }

  pub good_accepted : GoodHeader h → accepts h ≡ true
  unfolding accepts each_below header_checked
  good_accepted g =
      rw (
        is_one h.format g.format,
        lt-ltb h.drive.model types g.model,
        g.board_b,
        g.board_c,
        lt-ltb 0 h.count g.count.0,
        le-leb h.count most_blocks g.count.1,
        lt-ltb h.start h.count g.start,
        le-leb h.landings (most_of h.format) g.landings,
      )

-- ---- every landing block

-- what the test of one asks
pub landing_holds : (count : ℕ) (l : List ℕ) (i : ℕ) → landing_fits count l i ≡ true → (get_or l i 0 < count) × (0 < i → get_or l (i - 1) 0 < get_or l i 0)
landing_holds count l i e =
    let b = both (ltb (get_or l i 0) count) (eqb i 0 || ltb (get_or l (i - 1) 0) (get_or l i 0)) e in
    (ltb-true (get_or l i 0) count b.0, λ p. go p (or_is (eqb i 0) (ltb (get_or l (i - 1) 0) (get_or l i 0)) b.1))
  where
    go : 0 < i → (eqb i 0 ≡ true) ⊎ (ltb (get_or l (i - 1) 0) (get_or l i 0) ≡ true) → get_or l (i - 1) 0 < get_or l i 0
    go p (inl q) = let z = eqb-true i 0 q in absurd (omega arith)
    go p (inr q) = ltb-true (get_or l (i - 1) 0) (get_or l i 0) q

holds_landing : (count : ℕ) (l : List ℕ) (i : ℕ) → get_or l i 0 < count → (0 < i → get_or l (i - 1) 0 < get_or l i 0) → landing_fits count l i ≡ true
holds_landing count l i h a =
    rw (lt-ltb (get_or l i 0) count h)
    (by 0 i
    (λ p. rw (lt-ltb (get_or l (i - 1) 0) (get_or l i 0) (a p)) (or_right (eqb i 0)))
    (λ p. let z : i ≡ 0 = omega arith in rw (eq-eqb i 0 z)))

module _ (h : Header) (l : List ℕ) where
  pub landings_accepted : length l ≡ most_landings → h.landings ≤ most_landings → accepts_landings h l ≡ true → GoodLandings h l
  unfolding accepts_landings
  landings_accepted long most e =
      record {
        long = long;
        below = λ i u. (landing_holds h.count l i (listed i u)).0;
        ascending = λ i u.
            let q : suc i - 1 ≡ i = omega arith in rw q at ((landing_holds h.count l (suc i) (listed (suc i) u)).1 (omega arith));
        past = past;
      }
    where
      at : (i : ℕ) → i < most_landings → entry_fits h l i ≡ true
      at = each_passes (entry_fits h l) most_landings e

      listed : (i : ℕ) → i < h.landings → landing_fits h.count l i ≡ true
      listed i u = rw (lt-ltb i h.landings u) at (at i (omega arith))

      past : (i : ℕ) → h.landings ≤ i → get_or l i 0 ≡ 0
      past i u =
          by i most_landings
          (λ b. eqb-true (get_or l i 0) 0 (rw (le-ltb i h.landings u) at (at i b)))
          (λ b. get_or-eq_default l 0 (omega arith))

  pub good_landings_accepted : GoodLandings h l → accepts_landings h l ≡ true
  unfolding accepts_landings
  good_landings_accepted g = all_pass (entry_fits h l) most_landings (λ i u. by i h.landings (listed i) (past i))
    where
      listed : (i : ℕ) → i < h.landings → entry_fits h l i ≡ true
      listed i u =
          rw (lt-ltb i h.landings u)
          (holds_landing h.count l i (g.below i u)
          (λ p. let q : suc (i - 1) ≡ i = omega arith in rw q at (g.ascending (i - 1) (omega arith))))

      past : (i : ℕ) → h.landings ≤ i → entry_fits h l i ≡ true
      past i u = rw (le-ltb i h.landings u) (eq-eqb (get_or l i 0) 0 (g.past i u))

-- ---- the row of a header's number, and of a landing block

pub header_row : (row : ℕ) (ns : List ℕ) → row < header_count → checked row ns ≡ header_checked row (header_from ns)
unfolding checked
header_row row ns l = rw (lt-ltb row header_count l)

pub landing_row : (i : ℕ) (ns : List ℕ) → checked (header_count + i) ns ≡ cond (landing_fits (get_or ns 5 0) (landings_from ns) i) (Ok tt) (Err (header_count + i))
unfolding checked
landing_row i ns = let q : header_count + i - header_count ≡ i = omega arith in rw (le-ltb (header_count + i) header_count (omega arith), q)

-- ---- which numbers stand

pub header_stands : (row : ℕ) (ns : List ℕ) → row < header_count → (row ≡ landing_count_row → ⊥) → stands row ns ≡ true
unfolding stands
header_stands row ns l n = rw (lt-ltb row header_count l, ne_eqb row landing_count_row n)

pub landing_stands : (i : ℕ) (ns : List ℕ) → stands (header_count + i) ns ≡ ltb i (get_or ns 6 0)
unfolding stands
landing_stands i ns = let q : header_count + i - header_count ≡ i = omega arith in rw (le-ltb (header_count + i) header_count (omega arith), q)

-- one that comes next is one of those that the landing count says
pub landing_listed : (i : ℕ) (ns : List ℕ) (t : Bool) → (t && stands (header_count + i) ns) ≡ true → i < get_or ns 6 0
landing_listed i ns t e = ltb-true i (get_or ns 6 0) (sym (landing_stands i ns) ∙ (both t (stands (header_count + i) ns) e).1)

-- ---- a row looks only at the numbers up to its own

module _ (ns ms : List ℕ) where
  header_back : (row : ℕ) → ((k : ℕ) → k ≤ row → get_or ns k 0 ≡ get_or ms k 0) → header_checked row (header_from ns) ≡ header_checked row (header_from ms)
  unfolding header_checked
  header_back zero s = rw (s 0 (omega arith))
  header_back (suc zero) s = rw (s 1 (omega arith))
  header_back (suc (suc zero)) s = rw (s 1 (omega arith), s 2 (omega arith))
  header_back (suc (suc (suc zero))) s = rw (s 1 (omega arith), s 3 (omega arith))
  header_back (suc (suc (suc (suc zero)))) s = refl
  header_back (suc (suc (suc (suc (suc zero))))) s = rw (s 4 (omega arith), s 5 (omega arith))
  header_back (suc (suc (suc (suc (suc (suc zero)))))) s = rw (s 0 (omega arith), s 6 (omega arith))
  header_back (suc (suc (suc (suc (suc (suc (suc row))))))) s = refl

  landing_back : (i : ℕ) → ((k : ℕ) → k ≤ header_count + i → get_or ns k 0 ≡ get_or ms k 0)
      → landing_fits (get_or ns 5 0) (landings_from ns) i ≡ landing_fits (get_or ms 5 0) (landings_from ms) i
  landing_back i s = rw (at i (omega arith), at (i - 1) (omega arith), s 5 (omega arith))
    where
      at : (j : ℕ) → j ≤ i → get_or (landings_from ns) j 0 ≡ get_or (landings_from ms) j 0
      at j l = get_or-drop header_count ns j 0 ∙ s (header_count + j) (omega arith) ∙ sym (get_or-drop header_count ms j 0)

  pub looks_back : (row : ℕ) → ((k : ℕ) → k ≤ row → get_or ns k 0 ≡ get_or ms k 0) → checked row ns ≡ checked row ms
  looks_back row s =
      by row header_count
      (λ l. header_row row ns l ∙ header_back row s ∙ sym (header_row row ms l))
      (λ l.
      let q : row ≡ header_count + (row - header_count) = omega arith in
      let b = landing_back (row - header_count) (λ k u. s k (omega arith)) in
      rw q (landing_row (row - header_count) ns ∙ ap (λ (t : Bool). cond t (Ok tt) (Err (header_count + (row - header_count)))) b
      ∙ sym (landing_row (row - header_count) ms)))

  -- and whether a number stands is told by those of the header before it
  pub stands_back : (k : ℕ) → ((j : ℕ) → j < k → j < header_count → get_or ns j 0 ≡ get_or ms j 0) → stands k ns ≡ stands k ms
  unfolding stands
  stands_back k s =
      by k header_count
      (λ l. test (eqb k landing_count_row)
      (λ e. let q = eqb-true k landing_count_row e in rw (lt-ltb k header_count l, e, s 0 (omega arith) (omega arith)))
      (λ e. rw (lt-ltb k header_count l, e)))
      (λ l. rw (le-ltb k header_count l, s 6 (omega arith) (omega arith)))

-- ---- a row of a header blames no number behind its own

-- one test
blames_one : (t : Bool) (c : Check) (j n : ℕ) → j ≤ n → ((k : ℕ) → c ≡ Err k → k ≤ n) → (k : ℕ) → cond t c (Err j) ≡ Err k → k ≤ n
blames_one true c j n l f k e = f k e
blames_one false c j n l f k e = let q : j ≡ k = cc in omega arith

no_blame : (n k : ℕ) → ◌≡◌ {A = Check} (Ok tt) (Err k) → k ≤ n
no_blame n k e = clash (ap passed e)

module _ (h : Header) where
  pub blames : (row k : ℕ) → header_checked row h ≡ Err k → k ≤ row
  unfolding header_checked
  blames zero k e = blames_one (format_fits h) (Ok tt) 0 0 (omega arith) (no_blame 0) k e
  blames (suc zero) k e = blames_one (type_fits h) (Ok tt) 1 1 (omega arith) (no_blame 1) k e
  blames (suc (suc zero)) k e = blames_one (slot_b_fits h) (Ok tt) 2 2 (omega arith) (no_blame 2) k e
  blames (suc (suc (suc zero))) k e = blames_one (slot_c_fits h) (Ok tt) 3 3 (omega arith) (no_blame 3) k e
  blames (suc (suc (suc (suc zero)))) k e = no_blame 4 k e
  blames (suc (suc (suc (suc (suc zero))))) k e =
      blames_one (count_fits h) (cond (start_fits h) (Ok tt) (Err 4)) 5 5 (omega arith) (blames_one (start_fits h) (Ok tt) 4 5 (omega arith) (no_blame 5)) k e
  blames (suc (suc (suc (suc (suc (suc zero)))))) k e = blames_one (landing_count_fits h) (Ok tt) 6 6 (omega arith) (no_blame 6) k e
  blames (suc (suc (suc (suc (suc (suc (suc row))))))) k e = no_blame _ k e

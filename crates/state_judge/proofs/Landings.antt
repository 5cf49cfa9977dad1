-- The landing list in a buffer, judged entry by entry as far as its count, and the rest of it taken together.
use Prim.Native.Nat.{ℕ, zero, suc, ◌+◌, ◌-◌, ◌*◌, ◌<◌, ◌≤◌}
use mathlib.Core.Path.{◌≡◌, refl, sym, ap, ap₂, ◌∙◌}
use mathlib.Core.Bool.{Bool, true, false, ◌&&◌, ◌||◌, cond}
use mathlib.Core.List.{List}
use native.Mathlib.Omega.{arith}
use native.Mathlib.Numerals.{add-one}
use native.Mathlib.Nat.{add-zero, add-suc}
use lib.Dec.{eqb, ltb}
use lib.ListN.{get_or}
use borrow.Author.Tests.{eq-eqb, ne_eqb, eqb-true, eqb-false, lt-ltb, le-ltb}
use Rattle.limits.specs.Limits.{most_landings}
use Rattle.logic.specs.Each.{each_below}
use Rattle.image_header.specs.Rows.{landing_fits, entry_fits, accepts_landings}
use Rattle.image_header.specs.declared.Header.{Header}
use Rattle.state_bytes.specs.Bytes.{le_number_at}
use Rattle.state_bytes.proofs.Tables.{get_or_table}
use Rattle.state_layout.specs.Codecs.{words_in}
use Rattle.state_layout.specs.Layout.{landings_at}
use Rattle.state_judge.specs.Together.{together}
use Rattle.logic.proofs.Choice.{by}
use Rattle.state_judge.proofs.Union.{none_together, each_of, zero_when, same_tests}

-- ---- tests of the first n: those below i, then the others

and_assoc : (a b c : Bool) → ((a && b) && c) ≡ (a && (b && c))
and_assoc true b c = refl
and_assoc false b c = refl

pub and_true : (a : Bool) → a ≡ (a && true)
and_true true = refl
and_true false = refl

parted : (f : ℕ → Bool) (i m : ℕ) → each_below f (i + m) ≡ (each_below f i && each_below (λ (k : ℕ). f (i + k)) m)
unfolding each_below
parted f i zero = rw (add-zero i) (and_true (each_below f i))
parted f i (suc m) =
    rw (add-suc i m) (ap (λ (t : Bool). t && f (i + m)) (parted f i m) ∙ and_assoc (each_below f i) (each_below (λ (k : ℕ). f (i + k)) m) (f (i + m)))

-- ---- words are 0 when their bytes are

word_zero : (x y : ℕ) → (eqb x 0 && eqb y 0) ≡ eqb (x + 256 * (y + 256 * 0)) 0
word_zero x y = go (eqb x 0) (eqb y 0) refl refl
  where
    go : (t u : Bool) → eqb x 0 ≡ t → eqb y 0 ≡ u → (t && u) ≡ eqb (x + 256 * (y + 256 * 0)) 0
    go true true e f = let a = eqb-true x 0 e in let b = eqb-true y 0 f in sym (eq-eqb (x + 256 * (y + 256 * 0)) 0 (omega arith))
    go true false e f = let b = eqb-false y 0 f in sym (ne_eqb (x + 256 * (y + 256 * 0)) 0 (λ z. b (omega arith)))
    go false u e f = let a = eqb-false x 0 e in sym (ne_eqb (x + 256 * (y + 256 * 0)) 0 (λ z. a (omega arith)))

words_zero : (b : List ℕ) (at m : ℕ)
    → each_below (λ (k : ℕ). eqb (get_or b (at + k) 0) 0) (2 * m) ≡ each_below (λ (j : ℕ). eqb (le_number_at 2 b (at + 2 * j)) 0) m
unfolding each_below
words_zero b at zero = refl
words_zero b at (suc m) =
    let two : 2 * suc m ≡ suc (suc (2 * m)) = omega arith in
    let next : at + suc (2 * m) ≡ at + 2 * m + 1 = omega arith in
    rw (two, next)
    (and_assoc (each_below (λ (k : ℕ). eqb (get_or b (at + k) 0) 0) (2 * m)) (eqb (get_or b (at + 2 * m) 0) 0) (eqb (get_or b (at + 2 * m + 1) 0) 0)
    ∙ ap₂ ◌&&◌ (words_zero b at m) (word_zero (get_or b (at + 2 * m) 0) (get_or b (at + 2 * m + 1) 0)))

-- ---- the list

module _ (b : List ℕ) (h : Header) where
  abbrev list : List ℕ
  list = words_in most_landings b landings_at

  pub entry_is_lem : (i : ℕ) → i < most_landings → get_or list i 0 ≡ le_number_at 2 b (landings_at + 2 * i)
  unfolding words_in
  entry_is_lem i l = get_or_table most_landings (λ (j : ℕ). le_number_at 2 b (landings_at + 2 * j)) 0 i l

  -- what a loop holds that has judged the first i entries: each is a landing block by the count, and the latest of them stands before the next
  pub record Judged (pass : Bool) (before i : ℕ) : Type 0 where
    pub few : i ≤ most_landings
    pub listed : i ≤ h.landings
    pub tests : pass ≡ each_below (entry_fits h list) i
    pub latest : (i ≡ 0 → ⊥) → before ≡ get_or list (i - 1) 0

  pub judged_none : Judged true 0 0
  unfolding each_below
  judged_none = record { few = omega arith; listed = omega arith; tests = refl; latest = λ n. absurd (n refl) }

  -- one more
  pub judged_more : (pass : Bool) (before i block : ℕ) (fits : Bool) → Judged pass before i → i < most_landings → i < h.landings
      → block ≡ le_number_at 2 b (landings_at + 2 * i) → fits ≡ (ltb block h.count && (eqb i 0 || ltb before block)) → Judged (pass && fits) block (i + 1)
  unfolding each_below
  judged_more pass before i block fits j l u e f =
      record {
        few = omega arith;
        listed = omega arith;
        tests = rw (add-one i) (ap₂ ◌&&◌ j.tests (f ∙ one (eqb i 0) refl ∙ sym (ap (λ (t : Bool). cond t (landing_fits h.count list i) (eqb (get_or list i 0) 0)) (lt-ltb i h.landings u))));
        latest = λ _. let q : i + 1 - 1 ≡ i = omega arith in rw q (e ∙ sym (entry_is_lem i l));
      }
    where
      here : block ≡ get_or list i 0
      here = e ∙ sym (entry_is_lem i l)

      one : (t : Bool) → eqb i 0 ≡ t → (ltb block h.count && (t || ltb before block)) ≡ landing_fits h.count list i
      one true z = rw (here, z)
      one false z = rw (here, z, j.latest (eqb-false i 0 z))

  -- the rest is 0
  pub judged_rest : (pass : Bool) (before i rest : ℕ) → Judged pass before i → h.landings ≤ i
      → rest ≡ together b (landings_at + 2 * i) (2 * (most_landings - i)) → (pass && eqb rest 0) ≡ accepts_landings h list
  unfolding accepts_landings
  judged_rest pass before i rest j u e =
      let l = j.few in
      let q : i + (most_landings - i) ≡ most_landings = omega arith in
      ap₂ ◌&&◌ j.tests
      (ap (λ (x : ℕ). eqb x 0) e
      ∙ each_of (λ (x : ℕ). eqb x 0) refl zero_when b (landings_at + 2 * i) (2 * (most_landings - i))
      ∙ words_zero b (landings_at + 2 * i) (most_landings - i)
      ∙ same_tests _ _ (most_landings - i) past)
      ∙ sym (parted (entry_fits h list) i (most_landings - i))
      ∙ ap (each_below (entry_fits h list)) q
    where
      past : (k : ℕ) → k < most_landings - i → eqb (le_number_at 2 b (landings_at + 2 * i + 2 * k)) 0 ≡ entry_fits h list (i + k)
      past k v =
          let p : landings_at + 2 * i + 2 * k ≡ landings_at + 2 * (i + k) = omega arith in
          rw (le-ltb (i + k) h.landings (omega arith), p) (ap (λ (x : ℕ). eqb x 0) (sym (entry_is_lem (i + k) (omega arith))))

  -- there is no rest
  pub judged_all : (pass : Bool) (before i : ℕ) → Judged pass before i → most_landings ≤ i → pass ≡ accepts_landings h list
  unfolding accepts_landings
  judged_all pass before i j u = let l = j.few in let q : i ≡ most_landings = omega arith in j.tests ∙ ap (each_below (entry_fits h list)) q

  -- as many as are judged one by one, and the rest
  pub judged : (pass : Bool) (before n rest : ℕ) → Judged pass before n → (n < most_landings → h.landings ≤ n)
      → rest ≡ together b (landings_at + 2 * n) (2 * (most_landings - n)) → (pass && eqb rest 0) ≡ accepts_landings h list
  judged pass before n rest j u e = by n most_landings (λ l. judged_rest pass before n rest j (u l) e) full
    where
      full : most_landings ≤ n → (pass && eqb rest 0) ≡ accepts_landings h list
      full l =
          let m : 2 * (most_landings - n) ≡ 0 = omega arith in
          ap (λ (x : ℕ). pass && eqb x 0) (e ∙ ap (together b (landings_at + 2 * n)) m ∙ none_together b (landings_at + 2 * n)) ∙ sym (and_true pass) ∙ judged_all pass before n j l

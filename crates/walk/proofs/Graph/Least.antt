-- The least key of a list: none is less, and some member has it, or no member passes the test.
use Prim.Native.Nat.{ℕ, ◌≤◌}
use mathlib.Core.Path.{◌≡◌, refl, sym, ◌∙◌}
use mathlib.Core.Bool.{Bool, true, false, cond}
use mathlib.Core.Logic.{◌⊎◌, inl, inr, ⊎_elim}
use mathlib.Core.List.{List, [], ◌∷◌}
use native.Mathlib.Omega.{arith}
use lib.Dec.{ltb}
use borrow.Author.Tests.{ltb-true, ltb-false}
use Rattle.logic.proofs.Choice.{clash}
use Rattle.walk.specs.Graph.{In, lesser, least}

pub lesser_first : (a b : ℕ) → lesser a b ≤ a
lesser_first a b = go (ltb a b) refl
  where
    go : (t : Bool) → ltb a b ≡ t → cond t a b ≤ a
    go true e = omega arith
    go false e = let h = ltb-false a b e in omega arith

pub lesser_second : (a b : ℕ) → lesser a b ≤ b
lesser_second a b = go (ltb a b) refl
  where
    go : (t : Bool) → ltb a b ≡ t → cond t a b ≤ b
    go true e = let h = ltb-true a b e in omega arith
    go false e = omega arith

lesser_one : (a b : ℕ) → (lesser a b ≡ a) ⊎ (lesser a b ≡ b)
lesser_one a b = go (ltb a b)
  where
    go : (t : Bool) → (cond t a b ≡ a) ⊎ (cond t a b ≡ b)
    go true = inl refl
    go false = inr refl

module _ (test : ℕ → Bool) (key : ℕ → ℕ) (none : ℕ) where
  -- a member that passes the test and has this key
  pub record Member (ps : List ℕ) (k : ℕ) : Type 0 where
    pub at : ℕ
    pub member : In at ps
    pub passes : test at ≡ true
    pub key_is : key at ≡ k

  pub least_below : (ps : List ℕ) (p : ℕ) → In p ps → test p ≡ true → least test key none ps ≤ key p
  unfolding least
  least_below [] p m e = absurd m
  least_below (x ∷ ps) p m e = go (test x) refl (least_below ps p)
    where
      go : (t : Bool) → test x ≡ t → (In p ps → test p ≡ true → least test key none ps ≤ key p)
          → cond t (lesser (key x) (least test key none ps)) (least test key none ps) ≤ key p
      go true i later = ⊎_elim (λ s. rw s (lesser_first (key x) (least test key none ps))) (λ k. let a = later k e in
          let b = lesser_second (key x) (least test key none ps) in omega arith) m
      go false i later = ⊎_elim (λ s. clash (rw (← s, e) at i)) (λ k. later k e) m

  pub least_found : (ps : List ℕ) → (least test key none ps ≡ none) ⊎ Member ps (least test key none ps)
  unfolding least
  least_found [] = inl refl
  least_found (x ∷ ps) = go (least test key none ps) (test x) refl (least_found ps)
    where
      further : {k : ℕ} → Member ps k → Member (x ∷ ps) k
      further m = record { at = m.at; member = inr m.member; passes = m.passes; key_is = m.key_is }

      lower : (rest : ℕ) → test x ≡ true → (rest ≡ none) ⊎ Member ps rest → (lesser (key x) rest ≡ key x) ⊎ (lesser (key x) rest ≡ rest)
          → (lesser (key x) rest ≡ none) ⊎ Member (x ∷ ps) (lesser (key x) rest)
      lower rest i later (inl e) = inr (record { at = x; member = inl refl; passes = i; key_is = sym e })
      lower rest i (inl n) (inr e) = inl (e ∙ n)
      lower rest i (inr m) (inr e) = inr (rw e (further m))

      go : (rest : ℕ) (t : Bool) → test x ≡ t → (rest ≡ none) ⊎ Member ps rest
          → (cond t (lesser (key x) rest) rest ≡ none) ⊎ Member (x ∷ ps) (cond t (lesser (key x) rest) rest)
      go rest true i later = lower rest i later (lesser_one (key x) rest)
      go rest false i later = ⊎_elim (λ n. inl n) (λ m. inr (further m)) later

  -- it is the only number that is below all keys, and some member's key or none
  pub least_only : (ps : List ℕ) → ((p : ℕ) → In p ps → key p ≤ none) → (m : ℕ) → ((p : ℕ) → In p ps → test p ≡ true → m ≤ key p) → (m ≡ none) ⊎ Member ps m
      → m ≡ least test key none ps
  least_only ps bound m below found = go (least_found ps) found
    where
      go : (least test key none ps ≡ none) ⊎ Member ps (least test key none ps) → (m ≡ none) ⊎ Member ps m → m ≡ least test key none ps
      go (inl e) (inl f) = f ∙ sym e
      go (inl e) (inr k) = let a = least_below ps k.at k.member k.passes in let b = bound k.at k.member in let c = k.key_is in omega arith
      go (inr k) (inl f) = let a = below k.at k.member k.passes in let b = bound k.at k.member in let c = k.key_is in omega arith
      go (inr k) (inr j) =
          let a = below k.at k.member k.passes in
          let b = least_below ps j.at j.member j.passes in
          let c = k.key_is in
          let d = j.key_is in
          omega arith

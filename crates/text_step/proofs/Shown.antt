-- Things shown one after the other: nothing is shown where nothing was shown before and the next is the same.
use mathlib.Core.Path.{◌≡◌, refl, sym, ap, ◌∙◌}
use mathlib.Core.Bool.{Bool, true, false, ◌&&◌}

-- a thing that is the same
pub is_same : (n t : Bool) → t ≡ true → n ≡ (n && t)
is_same true t e = sym e
is_same false t e = refl

-- one thing, and what comes behind it
pub then : (n a b m : Bool) {r : Bool} → m ≡ (n && a) → r ≡ (m && b) → r ≡ (n && (a && b))
then n a b m e f = f ∙ ap (λ (x : Bool). x && b) e ∙ join n a b
  where
    join : (n a b : Bool) → ((n && a) && b) ≡ (n && (a && b))
    join true a b = refl
    join false a b = refl

-- What holds of the marks after a call (document 01, 13: bytes past the length asked for are not touched).
use Rattle.std.specs.Prelude.{ℕ, ◌≤◌, ◌≡◌, List, length, get_or}

-- the list is as long as it was, and from n on it is as it was; below n it is free
pub record After (n : ℕ) (l l' : List ℕ) : Type 0 where
  pub long : length l' ≡ length l
  pub rest : (k : ℕ) → n ≤ k → get_or l' k 0 ≡ get_or l k 0

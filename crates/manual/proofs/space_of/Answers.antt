-- The first place at which the byte is a space, or the length.
use Rattle.std.proofs.Common.{◌≡◌, ℕ, Bool, true, false, cond, List, length, nat_lt, Some, None, refl, ap, ◌∙◌, arith}
use Rattle.std.proofs.lemmas.List.Sums.{prefix_len-le-length}
use Rattle.std.specs.Prelude.{◌==◌, not}
use Rattle.std.specs.List.{position, position_or_len}
use Rattle.std.specs.Option.{unwrap_or}
use borrow.Author.Tests.{ltb-false}
use Rattle.manual.specs.Run.{space_of}
use Rattle.manual.proofs.space_of.Goals as goal

or_length : (p : ℕ → Bool) (xs : List ℕ) → unwrap_or (position p xs) (length xs) ≡ position_or_len p xs
or_length p xs = go (nat_lt (position_or_len p xs) (length xs)) refl
  where
    go : (t : Bool) → nat_lt (position_or_len p xs) (length xs) ≡ t
        → unwrap_or (cond t (Some (position_or_len p xs)) None) (length xs) ≡ position_or_len p xs
    go true e = refl
    go false e =
        let least = prefix_len-le-length (λ (x : ℕ). not (p x)) xs in
        let most = ltb-false (position_or_len p xs) (length xs) e in
        omega arith

pub returns-clause-value : goal.returns-clause-value
unfolding space_of
returns-clause-value c =
    let line = c.args.line.now in
    c.unwrap_or.ensures ∙ ap (λ o. unwrap_or o (length line)) c.first_space.ensures ∙ or_length (λ (b : ℕ). b == 32) line

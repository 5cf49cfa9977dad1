-- A text that grows in a buffer: words are put one behind the other, and what there is no room for is cut off. proofs/Joined.antt has the laws.
use Rattle.std.specs.Prelude.{◌≡◌, ℕ, ◌+◌, min, List, ◌++◌, length, take, drop}
use Rattle.std.specs.Counts.{IsPrefixLen}

-- a buffer with a word behind its first at bytes, cut at the buffer's end; bytes behind the word stay
unfoldable pub put_at : List ℕ → ℕ → List ℕ → List ℕ
put_at out at word = take (length out) (take at out ++ (word ++ drop (at + length word) out))

-- where the text ends then, in a buffer of so many bytes
unfoldable pub end_after : ℕ → ℕ → List ℕ → ℕ
end_after room at word = min (at + length word) room

-- a word put: where the text ends, that so many bytes of the buffer can be lent, and what the buffer holds
pub record Put (out : List ℕ) (at : ℕ) (word : List ℕ) (end : ℕ) (last : List ℕ) : Type 0 where
  pub ends : end ≡ end_after (length out) at word
  pub counts : IsPrefixLen end last
  pub holds : last ≡ put_at out at word

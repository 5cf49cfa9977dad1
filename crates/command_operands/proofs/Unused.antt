-- Bytes that a layout does not use: how many it uses, and whether those from a place on are 0.
use Prim.Native.Nat.{ℕ, ◌+◌, ◌<◌, ◌≤◌}
use native.Mathlib.Omega.{arith}
use mathlib.Core.Path.{◌≡◌, refl, sym, ap, ◌∙◌}
use mathlib.Core.Bool.{Bool, ◌&&◌}
use mathlib.Core.List.{List, [], ◌∷◌}
use lib.Dec.{eqb}
use lib.ListN.{length, take, drop}
use Rattle.std.specs.List.{list_all}
use Rattle.std.proofs.lemmas.List.{take_all}
use Rattle.std.proofs.Common.{length-drop}
use Rattle.limits.specs.Limits.{block_length}
use Rattle.command_table.specs.declared.Layout.{Layout}
use Rattle.command_table.specs.declared.Layout.TheVariants.{Bare, Byte, Word, Pair, Triple, TripleWord, ByteWord, Value, ByteValue, PairValue, ValueJump}
use Rattle.command_operands.specs.Operands.{used_bytes, all_zero}

-- with the code byte they are at most a block
pub used_most : (layout : Layout) → used_bytes layout < block_length
used_most Bare = omega arith
used_most Byte = omega arith
used_most Word = omega arith
used_most Pair = omega arith
used_most Triple = omega arith
used_most TripleWord = omega arith
used_most ByteWord = omega arith
used_most Value = omega arith
used_most ByteValue = omega arith
used_most PairValue = omega arith
used_most ValueJump = omega arith

-- all bytes of a list are 0, in std's word
all_zero_is : (xs : List ℕ) → all_zero xs ≡ list_all (λ x. eqb x 0) xs
unfolding all_zero
all_zero_is [] = refl
all_zero_is (x ∷ xs) = ap (λ (t : Bool). eqb x 0 && t) (all_zero_is xs)

-- and those from k on, as a part of a block
pub rest_zero : (b : List ℕ) (k m : ℕ) → length b ≤ k + m → list_all (λ x. eqb x 0) (take m (drop k b)) ≡ all_zero (drop k b)
rest_zero b k m h = ap (list_all (λ x. eqb x 0)) (take_all m (drop k b) (omega (arith, length-drop k b))) ∙ sym (all_zero_is (drop k b))

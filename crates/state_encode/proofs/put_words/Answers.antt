-- `state_encode::put_words` meets its contract: after i turns the bytes of i blocks are put.
use Prim.Native.Nat.{ℕ}
use mathlib.Core.Path.{refl, ◌∙◌}
use lib.ListN.{length, get_or}
use Rattle.num_le.specs.LittleEndian.{le_bytes}
use Rattle.state_bytes.proofs.Puts.{puts_long, concatenated_none, concatenated_more, concatenated_all}
use Rattle.state_layout.specs.Codecs.{word_bytes}
use native.Mathlib.Omega.{arith}
use borrow.Author.Rules.{rules}
use Rattle.state_encode.proofs.put_words.Goals as goal

pub loop-i-init : goal.loop-i-init
loop-i-init c = concatenated_none _ _ _

pub put_word-requires : goal.put_word-requires
put_word-requires c =
    let l = c.loop-i in
    omega (arith, c.requires, puts_long l.b c.args.b.now c.args.at _ l.invariant)

pub loop-i-preserved : goal.loop-i-preserved
loop-i-preserved c =
    let l = c.loop-i in
    c.put_word.ensures ∙ concatenated_more (λ (j : ℕ). le_bytes 2 (get_or c.args.words.now j 0)) 2 (λ j. refl) c.args.b.now c.args.at l.i l.b l.invariant

pub returns : goal.returns
unfolding word_bytes
returns c =
    let l = c.loop-i in
    record {
      b_after = concatenated_all (λ (j : ℕ). le_bytes 2 (get_or c.args.words.now j 0)) c.args.b.now c.args.at l.i (length c.args.words.now) l.b
          (omega arith) (omega arith) l.invariant;
      words_fit = search rules;
    }

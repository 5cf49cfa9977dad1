-- The byte of digits 2 i and 2 i + 1 is put behind the first i.
use Rattle.std.proofs.Common.{◌∙◌, refl, ap, List, ℕ, arith}
use Rattle.std.proofs.Math.ListN.{set, length-set}
use Rattle.text_hex.specs.Hex.{hex_bytes}
use Rattle.text_hex.proofs.Bytes.{one_more}
use Rattle.text_hex.proofs.decode.Goals as goal

pub loop-i-init : goal.loop-i-init
unfolding hex_bytes
loop-i-init c = record { same_length = refl; holds = refl }

pub loop-i-preserved : goal.loop-i-preserved
loop-i-preserved c =
    let v = c.loop-i in record {
      same_length = length-set v.out v.i c.byte.result ∙ v.invariant.same_length;
      holds = ap (λ (l : List ℕ). set l v.i c.byte.result) v.invariant.holds
          ∙ one_more _ _ v.i c.byte.result (omega arith) c.byte.ensures;
    }

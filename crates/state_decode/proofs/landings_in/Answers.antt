-- `landings_in` meets its contract: after k turns the first k entries are read, and those behind them are still 0, as they are in the buffer.
use Prim.Native.Nat.{ℕ, ◌+◌, ◌<◌, ◌≤◌}
use native.Mathlib.Omega.{arith}
use native.Mathlib.Decide.{ℕ_discrete}
use mathlib.Core.Path.{◌≡◌, refl, sym, ◌∙◌}
use mathlib.Core.List.{List}
use lib.ListN.{get_or, set, length-set}
use lib.Seq.{get_or-set_same, get_or-set_other}
use Rattle.limits.specs.Limits.{most_landings}
use Rattle.logic.proofs.Choice.{by}
use Rattle.state.proofs.Fresh.{get_d_replicate}
use Rattle.state_bytes.proofs.Tables.{table_is, get_or_table}
use Rattle.state_layout.specs.Codecs.{words_in}
use Rattle.state_layout.specs.Layout.{landings_at}
use Rattle.state_decode.proofs.landings_in.Invariants.{entry, Read}
use Rattle.state_decode.proofs.landings_in.Goals as goal

read_more : (b r : List ℕ) (k v : ℕ) → k < most_landings → Read b r k → v ≡ entry b k → Read b (set r k v) (k + 1)
read_more b r k v l h e = let n = h.long in record {
  long = length-set r k v ∙ h.long;
  front = λ j u. go j u (ℕ_discrete j k);
  rest = λ j u. get_or-set_other r k j v 0 (λ q. absurd (omega arith)) ∙ h.rest j (omega arith);
}
  where
    go : (j : ℕ) → j < k + 1 → Dec (j ≡ k) → entry b j ≡ get_or (set r k v) j 0
    go j u (yes q) = let n = h.long in rw (q, get_or-set_same r k v 0 (omega arith)) (sym e)
    go j u (no q) = rw (get_or-set_other r k j v 0 q) (h.front j (omega arith))

-- where the buffer has zeros behind them too, it is the list

all_read : (b r : List ℕ) (k : ℕ) → Read b r k → ((j : ℕ) → k ≤ j → get_or (words_in most_landings b landings_at) j 0 ≡ 0) → r ≡ words_in most_landings b landings_at
unfolding words_in
all_read b r k h z =
    sym (table_is most_landings (entry b) r 0 h.long
    (λ j u. by j k (h.front j) (λ v. sym (get_or_table most_landings (entry b) 0 j u) ∙ z j v ∙ sym (h.rest j v))))

pub loop-k-init : goal.loop-k-init
loop-k-init c = record { long = refl; front = λ j u. absurd (omega arith); rest = λ j _. get_d_replicate {A = ℕ} most_landings 0 j }

pub loop-k-preserved : goal.loop-k-preserved
loop-k-preserved c = let v = c.loop-k in
    read_more c.args.b.now v.r v.k _ (omega (arith, c.requires.count_in_range)) v.invariant c.word.ensures

pub returns : goal.returns
returns c =
    let v = c.loop-k in
    let e : v.k ≡ c.args.count = omega arith in
    all_read c.args.b.now v.r v.k v.invariant (λ j u. c.requires.zeros_behind j (omega arith))

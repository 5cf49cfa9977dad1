-- `touch_each` meets its contract: the touches that are left come to the same at each turn, and there is room for them.
use Prim.Native.Nat.{ℕ}
use mathlib.Core.Path.{ap, ◌∙◌}
use Rattle.walk_search.specs.Search.{listing, touched}
use Rattle.walk_search.proofs.Landings.{member, each_next, each_done, each_room, room_again}
use Rattle.walk_search.proofs.search.touch_each.Goals as goal

pub touch-n-requires : goal.touch-n-requires
touch-n-requires c =
    let v = c.loop-block in
    rw c.pair_of.ensures (each_room v.invariant.room _ (member c.args.landings.now v.block-index c.loop-block-test.true))

pub loop-block-preserved : goal.loop-block-preserved
loop-block-preserved c =
    let v = c.loop-block in
    let a = c.args in
    let i = member a.landings.now v.block-index c.loop-block-test.true in
    let e = c.touch-n.ensures ∙ ap (λ (q : ℕ). touched q a.s (listing v.marks v.n)) c.pair_of.ensures in
    record {
      room = room_again v.invariant.room _ i _ e;
      left = each_next a.landings.now a.t a.s v.block-index (listing v.marks v.n) c.loop-block-test.true _ e ∙ v.invariant.left;
    }

pub returns : goal.returns
returns c =
    let v = c.loop-block in
    each_done c.args.landings.now c.args.t c.args.s v.block-index (listing v.marks v.n) c.loop-block-test.false ∙ v.invariant.left

-- `together` meets its contract: after k turns the first k bytes are taken.
use native.Mathlib.Omega.{arith}
use native.Mathlib.Numerals.{add-one}
use mathlib.Core.Path.{◌≡◌, refl, ap, ap₂, ◌∙◌}
use mathlib.Core.List.{List}
use Prim.Native.Nat.{ℕ, ◌+◌}
use lib.Bits.{bit_or}
use lib.ListN.{length, get_or}
use Rattle.state_judge.specs.Together.{together}
use Rattle.state_judge.proofs.together.Goals as goal

pub loop-x-init : goal.loop-x-init
unfolding together
loop-x-init c = refl

-- one more

more : (b : List ℕ) (all k : ℕ) → all ≡ together b 0 k → bit_or all (get_or b k 0) ≡ together b 0 (k + 1)
unfolding together
more b all k e = let z : k ≡ 0 + k = omega arith in rw add-one (ap₂ bit_or e (ap (λ (j : ℕ). get_or b j 0) z))

pub loop-x-preserved : goal.loop-x-preserved
loop-x-preserved c = more c.args.bytes.now _ _ c.loop-x.invariant

pub returns : goal.returns
returns c =
    let l = c.loop-x in
    let e : l.x-index ≡ length c.args.bytes.now = omega arith in
    l.invariant ∙ ap (together c.args.bytes.now 0) e

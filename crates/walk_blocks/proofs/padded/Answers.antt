-- `padded` meets its contract: after the loop each of the eight bytes is that of the block, or 0.
use Prim.Native.Nat.{ℕ, zero, suc, ◌+◌, ◌*◌, ◌<◌}
use mathlib.Core.Path.{◌≡◌, refl, ap, ◌∙◌}
use mathlib.Core.List.{List}
use native.Mathlib.Omega.{arith}
use native.Mathlib.Nat.{add-zero}
use lib.ListN.{get_or}
use lib.Seq.{ext_get_or}
use Rattle.walk.specs.Blocks.{bytes_from}
use Rattle.walk_blocks.proofs.padded.Goals as goal

each : (bs : List ℕ) (at j : ℕ) → j < 8 → get_or bs (at + j) 0 ≡ get_or (bytes_from bs at) j 0
each bs at zero h = ap (λ (k : ℕ). get_or bs k 0) (add-zero at)
each bs at (suc zero) h = refl
each bs at (suc (suc zero)) h = refl
each bs at (suc (suc (suc zero))) h = refl
each bs at (suc (suc (suc (suc zero)))) h = refl
each bs at (suc (suc (suc (suc (suc zero))))) h = refl
each bs at (suc (suc (suc (suc (suc (suc zero)))))) h = refl
each bs at (suc (suc (suc (suc (suc (suc (suc zero))))))) h = refl
each bs at (suc (suc (suc (suc (suc (suc (suc (suc j)))))))) h = absurd (omega arith)

pub returns : goal.returns
returns c =
    let bs = c.args.blocks.now in
    let at = 8 * c.from-at.result in
    ext_get_or 0 c.loop-k.byte-items (bytes_from bs at) (omega arith) (λ j h. c.loop-k.invariant j (omega arith) ∙ each bs at j (omega arith))
    ∙ ap (λ (n : ℕ). bytes_from bs (8 * n)) c.from-at.ensures

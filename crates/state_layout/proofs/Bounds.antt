-- The numbers of a good state fit their bytes.
use Prim.Native.Nat.{ℕ, ◌<◌}
use native.Mathlib.Omega.{arith}
use mathlib.Core.Path.{◌≡◌}
use lib.ListN.{length, get_or}
use Rattle.limits.specs.Limits.{most_depth}
use Rattle.image_header.specs.GoodHeader.{GoodHeader}
use Rattle.image_header.specs.declared.Header.{Header}
use Rattle.logic.proofs.Choice.{by}
use Rattle.state.specs.GoodState.{GoodTask}
use Rattle.state.specs.declared.Task.{Task}
use Rattle.state.proofs.Bounds.{wait_fits_lem}

-- the numbers of a task fit their bytes
pub record TaskFits (task : Task) : Type 0 where
  pub status : task.status < 256
  pub depth : task.depth < 256
  pub block : task.block < 65536
  pub start : task.start < 65536
  pub long : length task.stack ≡ most_depth
  pub entry : (i : ℕ) → i < most_depth → get_or task.stack i 0 < 65536
  pub time : task.time < 4294967296
  pub turns : task.turns < 4294967296

pub task_fits : (h : Header) (task : Task) → GoodHeader h → GoodTask h task → TaskFits task
task_fits h task g t =
    let n = g.count.1 in
    let a = t.block in
    let b = t.start in
    let w = wait_fits_lem h.drive.model task.time task.turns g.model t.wait in
    let s = t.status in
    let d = t.depth in
    record {
      status = omega arith;
      depth = omega arith;
      block = omega arith;
      start = omega arith;
      long = t.long;
      entry = λ i lt. by i task.depth (λ c. let u = t.under i c in omega arith) (λ c. let z = t.above i c in omega arith);
      time = w.0;
      turns = let u = w.1 in omega arith;
    }

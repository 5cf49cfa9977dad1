-- The number of a point: by block, then task, then depth, so that its order is the report order. Six numbers in a row are the depths of one pair, a task at a
-- block, which the search relies on; what else is used of it are the laws of proofs/Points/Index.antt.
use Rattle.std.specs.Prelude.{ℕ, ◌+◌, ◌*◌, ◌/◌, ◌%◌, ◌<◌, ◌≤◌, Bool, ◌&&◌, ◌||◌, eqb, ltb}
use Rattle.limits.specs.Limits.{task_count, most_blocks, most_depth, depths}
use Rattle.walk_point.specs.PointFault.{point}
use Rattle.walk_point.specs.declared.Point.{Point}

-- the points that have a mark
pub record Inside (p : Point) : Type 0 where
  pub task : p.task < task_count
  pub block : p.block < most_blocks
  pub depth : p.depth ≤ most_depth

unfoldable pub index_of : Point → ℕ
index_of p = (p.block * task_count + p.task) * depths + p.depth

unfoldable pub point_at : ℕ → Point
point_at i = point (i / depths % task_count) (i / depths / task_count) (i % depths)

-- by one number, and where it is the same by the rest
abbrev pub by_number : ℕ → ℕ → Bool → Bool
by_number a b rest = ltb a b || (eqb a b && rest)

-- the report order: by block, then task, then depth (change request 2)
abbrev pub before : Point → Point → Bool
before p q = by_number p.block q.block (by_number p.task q.task (ltb p.depth q.depth))

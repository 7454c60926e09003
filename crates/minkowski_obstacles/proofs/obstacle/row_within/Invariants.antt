use Rattle.std.proofs.Common.{ℤ, pos, negsuc, ◌<ℤ◌, ◌≤ℤ◌, ◌↔◌, take}
use Rattle.std.specs.List.{All}
use Rattle.minkowski_obstacles.specs.Pairs.{offset}
use Rattle.minkowski_obstacles.specs.Intervals.{Holds}
use Rattle.minkowski_obstacles.specs.Sums.{value}
use Rattle.minkowski_obstacles.proofs.obstacle.row_within.Given as goal

abbrev pub invariant-loop-s : goal.invariant-loop-s
invariant-loop-s l = (x : ℤ) → Holds l.row x ↔ (((negsuc 1999 ≤ℤ x) × (x ≤ℤ pos 2000)) × All (λ s. pos 0 <ℤ value s (offset x l.y)) (take l.s-index l.sides))

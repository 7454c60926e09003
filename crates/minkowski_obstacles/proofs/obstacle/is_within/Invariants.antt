use Rattle.std.proofs.Common.{pos, ◌<ℤ◌, take}
use Rattle.std.specs.List.{All}
use Rattle.minkowski_obstacles.specs.Sums.{value}
use Rattle.minkowski_obstacles.proofs.obstacle.is_within.Given as goal

abbrev pub invariant-loop-s : goal.invariant-loop-s
invariant-loop-s l = All (λ s. pos 0 <ℤ value s l.w) (take l.s-index l.sides)

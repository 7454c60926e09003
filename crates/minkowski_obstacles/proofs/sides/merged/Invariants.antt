use Rattle.std.proofs.Common.{length, ◌+◌, ◌-◌}
use Rattle.minkowski_obstacles.proofs.JoinLaws.{Merging}
use Rattle.minkowski_obstacles.proofs.sides.merged.Given as goal

abbrev pub invariant-loop-i : goal.invariant-loop-i
invariant-loop-i l = Merging l.first l.second l.i l.j l.kept.items

abbrev pub decreases-loop-i : goal.decreases-loop-i
decreases-loop-i l = (length l.first - l.i) + (length l.second - l.j)

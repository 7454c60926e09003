use Rattle.std.proofs.Common.{◌≡◌, ◌≤ℤ◌, take}
use Rattle.std.specs.List.{All, Contains}
use Rattle.shape_exact.specs.Shapes.{cross}
use Rattle.minkowski_obstacles.proofs.furthest.furthest.Given as goal

abbrev pub invariant-loop-v : goal.invariant-loop-v
invariant-loop-v l = record {
  member : Contains l.vertices l.best;
  furthest : All (λ v. cross l.e.from l.e.to v ≤ℤ cross l.e.from l.e.to l.best) (take l.v-index l.vertices);
  height : l.height ≡ cross l.e.from l.e.to l.best;
}

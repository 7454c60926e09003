use Rattle.std.proofs.Common.{take, length, ◌≡◌}
use Rattle.std.specs.List.{AllZip, All}
use Rattle.shape_exact.specs.Plane.{rim}
use Rattle.shape_exact.specs.Sums.{Of_moving}
use Rattle.minkowski_obstacles.specs.Sums.{wall, IsSmall}
use Rattle.minkowski_obstacles.proofs.sides.moving_sides.Given as goal

abbrev pub invariant-loop-i : goal.invariant-loop-i
invariant-loop-i l = record {
  zip : AllZip (λ f s. Of_moving l.fixed f (wall s)) (take l.i (rim l.moving)) l.sides.items;
  count : length l.sides.items ≡ l.i;
  small : All IsSmall l.sides.items;
}

use Rattle.std.proofs.Common.{take, length, ◌≡◌}
use Rattle.std.specs.List.{AllZip, All}
use Rattle.shape_exact.specs.Plane.{rim}
use Rattle.shape_exact.specs.Sums.{Of_fixed}
use Rattle.minkowski_obstacles.specs.Sums.{wall, IsSmall}
use Rattle.minkowski_obstacles.proofs.sides.fixed_sides.Given as goal

abbrev pub invariant-loop-i : goal.invariant-loop-i
invariant-loop-i l = record {
  zip : AllZip (λ e s. Of_fixed l.moving e (wall s)) (take l.i (rim l.fixed)) l.sides.items;
  count : length l.sides.items ≡ l.i;
  small : All IsSmall l.sides.items;
}

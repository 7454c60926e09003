-- What every obstacle keeps.
use Rattle.std.specs.Prelude.{List, All}
use Rattle.shape_exact.specs.declared.point.Point.{Point}
use Rattle.shape_exact.specs.Shapes.{IsShape}
use Rattle.minkowski_obstacles.specs.declared.side.Side.{Side}
use Rattle.minkowski_obstacles.specs.Sums.{IsSum, IsSmall}
use Rattle.minkowski_obstacles.specs.Merged.{IsAscending}

-- two footprints, and the sides of the sum of the one and the other mirrored, merged by direction
pub record IsObstacle (fixed moving : List Point) (sides : List Side) : Type 0 where
  pub fixed_shape : IsShape fixed
  pub moving_shape : IsShape moving
  pub sum : IsSum fixed moving sides
  pub ascending : IsAscending sides
  pub small : All IsSmall sides

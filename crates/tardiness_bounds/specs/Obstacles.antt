-- The table of the obstacles of a yard.
use Rattle.std.specs.Prelude.{◌≡◌, ℕ, ◌*◌, ◌/◌, ◌%◌, ◌<◌, List, length, Some, slice_get}
use Rattle.shape_exact.specs.Yards.{PlainYard}
use Rattle.minkowski_obstacles.specs.Pairs.{Pair}
use Rattle.tardiness_bounds.specs.Footprints.{footprint_count, pair_at, turned_count}

-- the first n obstacles are of the footprints in the order of their numbers: each footprint that may stand, with each turned
-- footprint of a block
abbrev pub HaveObstacles : PlainYard → ℕ → List Pair → Type 0
HaveObstacles yard n list =
    (k : ℕ) → k < n → slice_get list k ≡ Some (pair_at yard (k / turned_count yard) (k % turned_count yard))

-- all of them
pub record AreObstacles (yard : PlainYard) (list : List Pair) : Type 0 where
  pub len : length list ≡ footprint_count yard * turned_count yard
  pub each : HaveObstacles yard (footprint_count yard * turned_count yard) list

-- The free positions of a plate.
use Rattle.std.specs.Prelude.{◌≡◌, ℕ, ◌*◌, pos, ◌+ℤ◌, ◌≤ℤ◌, All, Contains, List, ◌↔◌}
use Rattle.std.specs.List.{AllPairs}
use Rattle.shape_exact.specs.declared.point.Point.{Point}
use Rattle.shape_exact.specs.declared.plate.Plate.{Plate}
use Rattle.shape_exact.specs.Shapes.{AreApart, reach_x, reach_y}
use Rattle.minkowski_obstacles.specs.Pairs.{Pair}
use Rattle.lattice_free.specs.Order.{IsBefore}

-- a position at which the shape stands on the pitch and within the plate, and is apart from each fixed shape
pub record IsFree (plate : Plate) (shape : List Point) (fixed : List (Pair × Point)) (p : Point) : Type 0 where
  pub x_step : (k : ℕ) × (p.x ≡ pos (k * plate.pitch))
  pub y_step : (k : ℕ) × (p.y ≡ pos (k * plate.pitch))
  pub x_fits : (p.x +ℤ pos (reach_x shape)) ≤ℤ pos plate.width
  pub y_fits : (p.y +ℤ pos (reach_y shape)) ≤ℤ pos plate.height
  pub apart : All (λ o. AreApart o.0.fixed o.1 shape p) fixed

-- the positions of the list are exactly the free ones, each before the next ones
pub record AreFree (plate : Plate) (shape : List Point) (fixed : List (Pair × Point)) (ps : List Point) : Type 0 where
  pub ascending : AllPairs IsBefore ps
  pub exact : (p : Point) → Contains ps p ↔ IsFree plate shape fixed p

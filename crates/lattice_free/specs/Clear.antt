-- Positions at which a shape is clear of fixed ones.
use Rattle.std.specs.Prelude.{ℕ, ◌<◌, ◌≤◌, pos, ◌≤ℤ◌, List, All}
use Rattle.shape_exact.specs.declared.point.Point.{Point}
use Rattle.shape_exact.specs.declared.plate.Plate.{Plate}
use Rattle.shape_exact.specs.Shapes.{AreApart}
use Rattle.minkowski_obstacles.specs.Pairs.{Pair}
use Rattle.lattice_free.specs.declared.forbidden.Forbidden.{Forbidden}
use Rattle.lattice_free.specs.Gaps.{FitsWithin, Misses}
use Rattle.lattice_free.specs.Runs.{place, IsPitch}

-- a plate whose sides and pitch are within the limits
abbrev pub IsGround : Plate → Type 0
IsGround plate = (plate.width ≤ 400) × (plate.height ≤ 400) × IsPitch plate.pitch

-- a position of a fixed shape: coordinates from 0 to 400
abbrev pub IsAt : Point → Type 0
IsAt at = ((pos 0 ≤ℤ at.x) × (at.x ≤ℤ pos 400)) × ((pos 0 ≤ℤ at.y) × (at.y ≤ℤ pos 400))

-- the moving shape at the position and the fixed one at its own are apart
abbrev pub IsClear : Point → Pair → Point → Type 0
IsClear p pair at = AreApart pair.fixed at pair.moving p

-- the same of each fixed shape
abbrev pub AreClear : List (Pair × Point) → Point → Type 0
AreClear fixed p = All (λ o. IsClear p o.0 o.1) fixed

-- the lists of forbidden columns hold exactly the columns of the row at which the shape is not clear
pub record AreForbidden (fixed : List (Pair × Point)) (pitch row columns : ℕ) (ss : List Forbidden) : Type 0 where
  pub fits : All (FitsWithin columns) ss
  pub clear : (k : ℕ) → k < columns → All (Misses k) ss → AreClear fixed (place pitch row k)
  pub missed : (k : ℕ) → k < columns → AreClear fixed (place pitch row k) → All (Misses k) ss

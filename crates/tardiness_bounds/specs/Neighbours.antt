-- What stands near a placement: the blocks that stand and the pieces that are on its plate on some of its days.
use Rattle.std.specs.Prelude.{◌≡◌, ℕ, ◌+◌, ◌*◌, ◌<◌, ◌≤◌, pos, List, map, Some, slice_get, Contains, ◌↔◌, ◌⊎◌}
use Rattle.shape_exact.specs.Yards.{PlainYard}
use Rattle.shape_exact.specs.declared.fixed.Fixed.{Fixed}
use Rattle.shape_exact.specs.declared.point.Point.{Point}
use Rattle.minkowski_obstacles.specs.Pairs.{Pair}
use Rattle.code_table.specs.declared.placement.Placement.{Placement}
use Rattle.plan_rule.specs.Clashes.{MayClash, MayMeetPiece}
use Rattle.lattice_free.specs.Clear.{AreClear}
use Rattle.plan_rule.specs.Clashes.{place_of}
use Rattle.tardiness_bounds.specs.declared.near.Neighbour.{Neighbour}
use Rattle.tardiness_bounds.specs.declared.standing.Standing.{Standing}
use Rattle.tardiness_bounds.specs.Footprints.{footprint_count, pair_at, turned_count}

-- the footprint exists, and stands within the greatest plate
pub record IsNeighbour (yard : PlainYard) (n : Neighbour) : Type 0 where
  pub footprint_is : n.footprint < footprint_count yard
  pub x_is : n.x ≤ 400
  pub y_is : n.y ≤ 400

-- a block that stands
abbrev pub of_standing : Standing → Neighbour
of_standing f = record { footprint = f.block * 4 + f.place.turn; x = f.place.x; y = f.place.y }

-- the piece with this number
abbrev pub of_piece : PlainYard → ℕ → Fixed → Neighbour
of_piece yard i piece = record { footprint = turned_count yard + i; x = piece.x; y = piece.y }

-- one of the blocks that stand, which may clash with the placement
abbrev pub IsNearBlock : Placement → List Standing → Neighbour → Type 0
IsNearBlock p list n = (f : Standing) × Contains list f × MayClash f.place p × (n ≡ of_standing f)

-- one of the first k pieces, which the placement may meet
abbrev pub IsNearPiece : PlainYard → Placement → ℕ → Neighbour → Type 0
IsNearPiece yard p k n =
    (i : ℕ) × (piece : Fixed) × (i < k) × (slice_get yard.fixed i ≡ Some piece) × MayMeetPiece p piece × (n ≡ of_piece yard i piece)

-- the blocks that stand, and the first k pieces, that are on the placement's plate on some of its days
abbrev pub AreNear : PlainYard → Placement → List Standing → ℕ → List Neighbour → Type 0
AreNear yard p list k near = (n : Neighbour) → Contains near n ↔ (IsNearBlock p list n ⊎ IsNearPiece yard p k n)

-- where its footprint is shifted to
abbrev pub spot_of : Neighbour → Point
spot_of n = record { x = pos n.x; y = pos n.y }

-- its footprint and a turned one of a block, and where the first stands
abbrev pub obstacle_of : PlainYard → ℕ → Neighbour → Pair × Point
obstacle_of yard moving n = (pair_at yard n.footprint moving, spot_of n)

abbrev pub obstacles_of : PlainYard → ℕ → List Neighbour → List (Pair × Point)
obstacles_of yard moving near = map (obstacle_of yard moving) near

-- the block at the placement is clear of the footprints that stand near
abbrev pub IsClearOfNear : PlainYard → List Neighbour → ℕ → Placement → Type 0
IsClearOfNear yard near b p = AreClear (obstacles_of yard (b * 4 + p.turn) near) (place_of p)

-- Where a code stands.
use Rattle.std.specs.Prelude.{◌≡◌, ℕ, ◌*◌, ◌/◌, ◌%◌, ◌≤◌, ◌<◌, true, false, List, Some, slice_get, length, unwrap_or}
use Rattle.shape_exact.specs.Yards.{PlainYard}
use Rattle.shape_exact.specs.Shapes.{turned, reach_x, reach_y}
use Rattle.shape_exact.specs.declared.block.Block.{Block}
use Rattle.shape_exact.specs.declared.plate.Plate.{Plate}
use Rattle.plate_calendar.specs.Calendars.{open_days, end_of}
use Rattle.code_table.specs.declared.placement.Placement.{Placement}
use Rattle.code_table.specs.declared.spot.Spot.{Spot}
use Rattle.shape_exact.specs.declared.point.Point.{Point}
use Rattle.code_table.specs.Grids.{columns}
use Rattle.code_table.specs.Placements.{placed, grid_of, placements_of}

-- the positions of a block on a plate at a start, an end, a plate's number and a turn
abbrev pub spot_grid : Block → Plate → Spot → List Placement
spot_grid block plate s =
    grid_of plate (reach_y (turned s.turn block.shape)) (reach_x (turned s.turn block.shape)) (placed s.start s.end s.plate s.turn)

-- the code is of the placement at a place among the positions with this start, end, plate and turn
pub record IsSpot (yard : PlainYard) (block : Block) (code : ℕ) (s : Spot) : Type 0 where
  pub plate : Plate
  pub plate_is : slice_get yard.plates s.plate ≡ Some plate
  pub start : s.start < yard.days
  pub released : block.release ≤ s.start
  pub end_is : end_of (open_days yard.days plate.closed) s.start block.duration ≡ Some s.end
  pub turn : s.turn < 4
  pub allowed : unwrap_or (slice_get block.turns s.turn) false ≡ true
  pub within : s.rest < length (spot_grid block plate s)
  pub at : slice_get (placements_of yard block) code ≡ slice_get (spot_grid block plate s) s.rest

-- the placement of a spot on a plate, for the turned shape
abbrev pub spot_placement : Plate → List Point → Spot → Placement
spot_placement plate shape s =
    placed s.start s.end s.plate s.turn (s.rest / columns plate shape * plate.pitch) (s.rest % columns plate shape * plate.pitch)

-- A start, a plate and a turn: all of a placement but its position.
use Rattle.std.specs.Prelude.{◌≡◌, ◌≤◌, Some, ℕ, ◌*◌, ◌/◌, ◌%◌, false, List, nat_le, slice_get, length, unwrap_or}
use Rattle.shape_exact.specs.Yards.{PlainYard}
use Rattle.shape_exact.specs.declared.plate.Plate.{Plate}
use Rattle.shape_exact.specs.declared.block.Block.{Block}
use Rattle.shape_exact.specs.Shapes.{turned, reach_x, reach_y}
use Rattle.plate_calendar.specs.Calendars.{open_days, end_of}
use Rattle.common_lists.specs.Each.{when, for_some, sum_below}
use Rattle.code_table.specs.declared.placement.Placement.{Placement}
use Rattle.code_table.specs.Placements.{placed, grid_of}

-- the placements of a block that have a start, a plate and a turn
unfoldable pub stand_at : PlainYard → Block → ℕ → ℕ → ℕ → List Placement
stand_at yard block start p turn =
    when (nat_le block.release start)
    (for_some (slice_get yard.plates p) (λ plate.
    for_some (end_of (open_days yard.days plate.closed) start block.duration) (λ end.
    when (unwrap_or (slice_get block.turns turn) false)
    (grid_of plate (reach_y (turned turn block.shape)) (reach_x (turned turn block.shape)) (placed start end p turn)))))

-- how many stands a yard has
abbrev pub stands : PlainYard → ℕ
stands yard = yard.days * (length yard.plates * 4)

-- the start, the plate and the turn of the k-th stand, in the order of start, plate and turn
abbrev pub stand_start : PlainYard → ℕ → ℕ
stand_start yard k = k / (length yard.plates * 4)

abbrev pub stand_plate : PlainYard → ℕ → ℕ
stand_plate yard k = k % (length yard.plates * 4) / 4

abbrev pub stand_turn : PlainYard → ℕ → ℕ
stand_turn yard k = k % (length yard.plates * 4) % 4

-- the placements of a block that have the k-th stand
unfoldable pub nth_stand : PlainYard → Block → ℕ → List Placement
nth_stand yard block k = stand_at yard block (stand_start yard k) (stand_plate yard k) (stand_turn yard k)

-- how many placements of a block the first stands have
abbrev pub sum_to : PlainYard → Block → ℕ → ℕ
sum_to yard block k = sum_below k (λ k. length (nth_stand yard block k))

-- a block that starts on a day of a plate, not before its release, ends on a day
pub record EndsOn (yard : PlainYard) (block : Block) (start p end : ℕ) : Type 0 where
  pub plate : Plate
  pub plate_is : slice_get yard.plates p ≡ Some plate
  pub released : block.release ≤ start
  pub end_is : end_of (open_days yard.days plate.closed) start block.duration ≡ Some end

-- The placements of a block, in the order of their codes, and what a code costs.
use Rattle.std.specs.Prelude.{◌≡◌, ℕ, ◌+◌, ◌-◌, ◌*◌, ◌<◌, ◌≤◌, true, false, List, [], ◌∷◌, nat_le, Option, Some, None, slice_get, length, unwrap_or}
use Rattle.shape_exact.specs.Yards.{PlainYard}
use Rattle.shape_exact.specs.declared.block.Block.{Block}
use Rattle.shape_exact.specs.declared.plate.Plate.{Plate}
use Rattle.shape_exact.specs.Shapes.{turned, reach_x, reach_y}
use Rattle.plate_calendar.specs.Calendars.{open_days, end_of}
use Rattle.common_lists.specs.Each.{each, when, for_some}
use Rattle.code_table.specs.declared.placement.Placement.{Placement}

-- a start, its end, a plate, a turn and a position
abbrev pub placed : ℕ → ℕ → ℕ → ℕ → ℕ → ℕ → Placement
placed start end p turn y x = record { start = start; end = end; plate = p; turn = turn; y = y; x = x }

-- the list of the k-th multiple of the pitch, where a length from there stays within the size
abbrev pub at_step : {A : Type 0} → ℕ → ℕ → ℕ → (ℕ → List A) → ℕ → List A
at_step pitch long size f k = when (nat_le (k * pitch + long) size) (f (k * pitch))

-- each such list
abbrev pub each_step : {A : Type 0} → ℕ → ℕ → ℕ → (ℕ → List A) → List A
each_step pitch long size f = each (size + 1) (at_step pitch long size f)

-- the placements of a start, an end, a plate, a turn and a y, by x
abbrev pub row_of : Plate → ℕ → (ℕ → Placement) → List Placement
row_of plate long f = each_step plate.pitch long plate.width (λ x. f x ∷ [])

-- the placements of a start, an end, a plate and a turn, by y and then by x
abbrev pub grid_of : Plate → ℕ → ℕ → (ℕ → ℕ → Placement) → List Placement
grid_of plate high long f = each_step plate.pitch high plate.height (λ y. row_of plate long (f y))

-- the placements of a start and a plate, by turn
abbrev pub placements_on : ℕ → Block → ℕ → ℕ → Plate → List Placement
placements_on days block start p plate =
    for_some (end_of (open_days days plate.closed) start block.duration) (λ end.
    each 4 (λ turn. when (unwrap_or (slice_get block.turns turn) false)
    (grid_of plate (reach_y (turned turn block.shape)) (reach_x (turned turn block.shape)) (placed start end p turn))))

-- the placements of a block, by start and then by plate
abbrev pub placements_of : PlainYard → Block → List Placement
placements_of yard block =
    each yard.days (λ start. when (nat_le block.release start)
    (each (length yard.plates) (λ p. for_some (slice_get yard.plates p) (placements_on yard.days block start p))))

-- the placements of the block with this number; a code is a position in this list
abbrev pub placements : PlainYard → ℕ → List Placement
placements yard b = for_some (slice_get yard.blocks b) (placements_of yard)

-- what a block costs that ends on a day: the weight for each day past the due day, the early cost for each day before it
abbrev pub cost_on : Block → ℕ → ℕ
cost_on block end = block.weight * (end - block.due) + block.early * (block.due - end)

-- what a placement costs
abbrev pub cost_at : Block → Placement → ℕ
cost_at block p = cost_on block p.end

abbrev pub cost_of : Option Block → Option Placement → ℕ
cost_of None p = 0
cost_of (Some block) None = 0
cost_of (Some block) (Some p) = cost_at block p

-- what a code of a block costs
abbrev pub own_cost : PlainYard → ℕ → ℕ → ℕ
own_cost yard b code = cost_of (slice_get yard.blocks b) (slice_get (placements yard b) code)

-- what it is to be a placement of a block
pub record IsPlacement (yard : PlainYard) (block : Block) (p : Placement) : Type 0 where
  pub plate : Plate
  pub plate_is : slice_get yard.plates p.plate ≡ Some plate
  pub start : p.start < yard.days
  pub released : block.release ≤ p.start
  pub end_is : end_of (open_days yard.days plate.closed) p.start block.duration ≡ Some p.end
  pub turn : p.turn < 4
  pub allowed : slice_get block.turns p.turn ≡ Some true
  pub x_step : (k : ℕ) × (p.x ≡ k * plate.pitch)
  pub y_step : (k : ℕ) × (p.y ≡ k * plate.pitch)
  pub x_fits : p.x + reach_x (turned p.turn block.shape) ≤ plate.width
  pub y_fits : p.y + reach_y (turned p.turn block.shape) ≤ plate.height

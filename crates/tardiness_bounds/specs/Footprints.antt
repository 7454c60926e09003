-- The footprints of a yard by number: those of its blocks in their turns, and then those of its pieces.
use Rattle.std.specs.Prelude.{ℕ, ◌+◌, ◌-◌, ◌*◌, ◌/◌, ◌%◌, List, length, [], slice_get, nat_lt, if◌then◌else◌}
use Rattle.std.specs.Option.{option_map_or}
use Rattle.shape_exact.specs.Yards.{PlainYard}
use Rattle.shape_exact.specs.Shapes.{turned}
use Rattle.shape_exact.specs.declared.block.Block.{Block}
use Rattle.shape_exact.specs.declared.fixed.Fixed.{Fixed}
use Rattle.shape_exact.specs.declared.point.Point.{Point}
use Rattle.minkowski_obstacles.specs.Pairs.{Pair}

-- the footprint of the block with this number
abbrev pub shape_of : PlainYard → ℕ → List Point
shape_of yard b = option_map_or (λ (block : Block). block.shape) (slice_get yard.blocks b) []

-- the footprint of the piece with this number
abbrev pub piece_shape : PlainYard → ℕ → List Point
piece_shape yard i = option_map_or (λ (piece : Fixed). piece.shape) (slice_get yard.fixed i) []

-- how many turned footprints the blocks have
abbrev pub turned_count : PlainYard → ℕ
turned_count yard = length yard.blocks * 4

-- how many footprints there are
abbrev pub footprint_count : PlainYard → ℕ
footprint_count yard = turned_count yard + length yard.fixed

-- the footprint with this number: block times 4, and the turn; and after those the pieces
abbrev pub footprint_at : PlainYard → ℕ → List Point
footprint_at yard k =
    if nat_lt k (turned_count yard) then turned (k % 4) (shape_of yard (k / 4)) else piece_shape yard (k - turned_count yard)

-- a footprint that stands, and a turned one of a block
abbrev pub pair_at : PlainYard → ℕ → ℕ → Pair
pair_at yard standing moving = record { fixed = footprint_at yard standing; moving = footprint_at yard moving }

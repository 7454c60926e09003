-- When two placements of different blocks clash, and when a placement meets a fixed piece.
use Rattle.std.specs.Prelude.{◌≡◌, ℕ, ◌≤◌, pos, Some, slice_get}
use Rattle.shape_exact.specs.Yards.{PlainYard, piece_at}
use Rattle.shape_exact.specs.declared.block.Block.{Block}
use Rattle.shape_exact.specs.declared.fixed.Fixed.{Fixed}
use Rattle.shape_exact.specs.declared.point.Point.{Point}
use Rattle.shape_exact.specs.Shapes.{AreApart, turned}
use Rattle.code_table.specs.declared.placement.Placement.{Placement}
use Rattle.code_table.specs.Placements.{placements}

-- where a placement puts the shape's lower left corner
abbrev pub place_of : Placement → Point
place_of p = record { x = pos p.x; y = pos p.y }

-- the plate is the same, and the spans share a day
abbrev pub MayClash : Placement → Placement → Type 0
MayClash p q = (p.plate ≡ q.plate) × (p.start ≤ q.end) × (q.start ≤ p.end)

-- the plate is the same, the spans share a day, and the turned shapes at their places are not apart
pub record PlacementsClash (one : Block) (p : Placement) (two : Block) (q : Placement) : Type 0 where
  pub plate : p.plate ≡ q.plate
  pub first_starts : p.start ≤ q.end
  pub second_starts : q.start ≤ p.end
  pub shapes : AreApart (turned p.turn one.shape) (place_of p) (turned q.turn two.shape) (place_of q) → ⊥

-- the placements of these codes clash
pub record Clash (yard : PlainYard) (a code_a b code_b : ℕ) : Type 0 where
  pub one : Block
  pub two : Block
  pub p : Placement
  pub q : Placement
  pub one_is : slice_get yard.blocks a ≡ Some one
  pub two_is : slice_get yard.blocks b ≡ Some two
  pub p_is : slice_get (placements yard a) code_a ≡ Some p
  pub q_is : slice_get (placements yard b) code_b ≡ Some q
  pub clash : PlacementsClash one p two q

-- the plate is the same, and the span and the piece's days share a day
abbrev pub MayMeetPiece : Placement → Fixed → Type 0
MayMeetPiece p f = (p.plate ≡ f.plate) × (p.start ≤ f.to) × (f.from ≤ p.end)

-- the plate is the same, the span and the piece's days share a day, and the turned shape and the piece are not apart
pub record MeetPiece (block : Block) (p : Placement) (f : Fixed) : Type 0 where
  pub plate : p.plate ≡ f.plate
  pub starts : p.start ≤ f.to
  pub ends : f.from ≤ p.end
  pub shapes : AreApart (turned p.turn block.shape) (place_of p) f.shape (piece_at f) → ⊥

-- the placement of this code meets the piece with this number
pub record MeetsPiece (yard : PlainYard) (b code i : ℕ) : Type 0 where
  pub block : Block
  pub p : Placement
  pub piece : Fixed
  pub block_is : slice_get yard.blocks b ≡ Some block
  pub p_is : slice_get (placements yard b) code ≡ Some p
  pub piece_is : slice_get yard.fixed i ≡ Some piece
  pub meet : MeetPiece block p piece

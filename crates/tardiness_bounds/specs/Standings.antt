-- Blocks that stand at codes, and the placements of other blocks that are clear of them and of the pieces.
use Rattle.std.specs.Prelude.{◌≡◌, ℕ, ◌<◌, ◌≤◌, List, length, map, take, Some, slice_get, All}
use Rattle.shape_exact.specs.Yards.{PlainYard}
use Rattle.shape_exact.specs.declared.block.Block.{Block}
use Rattle.shape_exact.specs.declared.fixed.Fixed.{Fixed}
use Rattle.code_table.specs.declared.placement.Placement.{Placement}
use Rattle.code_table.specs.Placements.{placements}
use Rattle.plan_rule.specs.declared.literal.Literal.{Literal}
use Rattle.plan_rule.specs.Boxes.{exact, LeavesFree}
use Rattle.plan_rule.specs.Clashes.{MeetPiece, PlacementsClash}
use Rattle.tardiness_bounds.specs.declared.standing.Standing.{Standing}

-- the block exists, and stands at the placement of the code
pub record IsStanding (yard : PlainYard) (f : Standing) : Type 0 where
  pub block : f.block < length yard.blocks
  pub code : slice_get (placements yard f.block) f.code ≡ Some f.place
  pub turn : f.place.turn < 4
  pub x : f.place.x ≤ 400
  pub y : f.place.y ≤ 400

-- the literals of blocks that stand
abbrev pub literals_of : List Standing → List Literal
literals_of list = map (λ f. exact f.block f.code) list

-- a block that stands clashes with another block at a placement
pub record ClashesAt (yard : PlainYard) (f : Standing) (b : ℕ) (p : Placement) : Type 0 where
  pub one : Block
  pub two : Block
  pub one_is : slice_get yard.blocks f.block ≡ Some one
  pub two_is : slice_get yard.blocks b ≡ Some two
  pub clash : PlacementsClash one f.place two p

-- the block meets, at a placement, the piece with this number
pub record MeetsAt (yard : PlainYard) (b : ℕ) (p : Placement) (i : ℕ) : Type 0 where
  pub block : Block
  pub piece : Fixed
  pub block_is : slice_get yard.blocks b ≡ Some block
  pub piece_is : slice_get yard.fixed i ≡ Some piece
  pub meet : MeetPiece block p piece

-- the block at the placement clashes with none of those that stand, and meets no piece
pub record IsClear (yard : PlainYard) (list : List Standing) (b : ℕ) (p : Placement) : Type 0 where
  pub apart : All (λ f. ClashesAt yard f b p → ⊥) list
  pub unmet : (i : ℕ) → MeetsAt yard b p i → ⊥

-- no block stands twice: the literals before its own leave each block free
abbrev pub StandOnce : List Standing → Type 0
StandOnce list = (k : ℕ) (f : Standing) → slice_get list k ≡ Some f → LeavesFree (literals_of (take k list)) f.block

-- the code's placement is clear of the blocks that stand and of the pieces
abbrev pub IsClearAt : PlainYard → List Standing → ℕ → ℕ → Type 0
IsClearAt yard list b code = (p : Placement) → slice_get (placements yard b) code ≡ Some p → IsClear yard list b p

-- The fixed pieces near a placement, by number.
use Rattle.std.specs.Prelude.{◌≡◌, ℕ, List, Some, slice_get, Contains, Any, ◌↔◌}
use Rattle.shape_exact.specs.Yards.{PlainYard}
use Rattle.shape_exact.specs.declared.block.Block.{Block}
use Rattle.shape_exact.specs.declared.fixed.Fixed.{Fixed}
use Rattle.code_table.specs.declared.placement.Placement.{Placement}
use Rattle.plan_rule.specs.Clashes.{MayMeetPiece, MeetPiece}

-- the piece with this number is on the placement's plate on some of its days
abbrev pub IsNearPiece : PlainYard → Placement → ℕ → Type 0
IsNearPiece yard p i = (f : Fixed) × (slice_get yard.fixed i ≡ Some f) × MayMeetPiece p f

-- the pieces that are
abbrev pub AreNear : PlainYard → Placement → List ℕ → Type 0
AreNear yard p list = (i : ℕ) → Contains list i ↔ IsNearPiece yard p i

-- a block at a placement meets the piece with this number
pub record MeetsAt (yard : PlainYard) (b : ℕ) (p : Placement) (i : ℕ) : Type 0 where
  pub block : Block
  pub piece : Fixed
  pub block_is : slice_get yard.blocks b ≡ Some block
  pub piece_is : slice_get yard.fixed i ≡ Some piece
  pub meet : MeetPiece block p piece

-- a block at a placement meets one of the pieces with these numbers
abbrev pub MeetsOne : PlainYard → List ℕ → ℕ → Placement → Type 0
MeetsOne yard list b p = Any (λ i. MeetsAt yard b p i) list

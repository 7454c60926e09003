-- The blocks that a side fixes to one code each, and which placements of other blocks clash with them.
use Rattle.std.specs.Prelude.{◌≡◌, ℕ, ◌<◌, ◌≤◌, List, length, Some, slice_get, Contains, Any, ◌↔◌}
use Rattle.shape_exact.specs.Yards.{PlainYard}
use Rattle.shape_exact.specs.declared.block.Block.{Block}
use Rattle.code_table.specs.declared.placement.Placement.{Placement}
use Rattle.code_table.specs.Placements.{placements}
use Rattle.plan_rule.specs.declared.literal.Literal.{Literal}
use Rattle.plan_rule.specs.Boxes.{HasExact}
use Rattle.plan_rule.specs.Clashes.{PlacementsClash}
use Rattle.log_checker.specs.declared.exact.Exact.{Exact}

-- the block exists, and the placement is within the limits
pub record IsStanding (yard : PlainYard) (f : Exact) : Type 0 where
  pub block : f.block < length yard.blocks
  pub turn : f.place.turn < 4
  pub x : f.place.x ≤ 400
  pub y : f.place.y ≤ 400

-- a block with a placement stands in the list exactly where the side fixes the block to that placement's code
abbrev pub AreExact : PlainYard → List Literal → List Exact → Type 0
AreExact yard side list =
    (f : Exact) → Contains list f
    ↔ ((d : ℕ) × HasExact side f.block d × (slice_get (placements yard f.block) d ≡ Some f.place))

-- an exact block clashes with another block at a placement
pub record ClashesAt (yard : PlainYard) (f : Exact) (b : ℕ) (p : Placement) : Type 0 where
  pub one : Block
  pub two : Block
  pub one_is : slice_get yard.blocks f.block ≡ Some one
  pub two_is : slice_get yard.blocks b ≡ Some two
  pub clash : PlacementsClash one f.place two p

-- one of the exact blocks clashes with another block at a placement
abbrev pub ClashesWithOne : PlainYard → List Exact → ℕ → Placement → Type 0
ClashesWithOne yard list b p = Any (λ f. ClashesAt yard f b p) list

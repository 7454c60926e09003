-- Where a box sets its blocks.
use Rattle.std.specs.Prelude.{◌≡◌, ℕ, List, Option, Some, None, length, slice_get}
use Rattle.shape_exact.specs.Yards.{PlainYard}
use Rattle.code_table.specs.declared.placement.Placement.{Placement}
use Rattle.code_table.specs.Placements.{placements}
use Rattle.plan_rule.specs.declared.literal.Literal.{Literal}
use Rattle.plan_rule.specs.Boxes.{HasExact, exact_code}

-- the literals of a box, and a placement or none for each block
pub record PlainSide : Type 0 where
  pub literals : List Literal
  pub places : List (Option Placement)

-- the placement is one of the block's
abbrev pub IsPlaced : PlainYard → ℕ → Placement → Type 0
IsPlaced yard b p = (code : ℕ) × (slice_get (placements yard b) code ≡ Some p)

-- the placement of the code to which the box sets the block; none where it sets it to none
abbrev pub IsExactPlace : PlainYard → List Literal → ℕ → Option Placement → Type 0
IsExactPlace yard box b None = exact_code box b ≡ None
IsExactPlace yard box b (Some p) = (code : ℕ) × HasExact box b code × (slice_get (placements yard b) code ≡ Some p)

-- the same of each of the first blocks
abbrev pub HaveExactPlaces : PlainYard → List Literal → List (Option Placement) → Type 0
HaveExactPlaces yard box places = (b : ℕ) (o : Option Placement) → slice_get places b ≡ Some o → IsExactPlace yard box b o

-- the same of each block
pub record AreExactPlaces (yard : PlainYard) (side : PlainSide) : Type 0 where
  pub len : length side.places ≡ length yard.blocks
  pub each : HaveExactPlaces yard side.literals side.places

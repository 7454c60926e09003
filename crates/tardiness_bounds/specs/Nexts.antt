-- The next free code of a block.
use Rattle.std.specs.Prelude.{◌≡◌, ℕ, ◌≤◌, List, Some, slice_get}
use Rattle.shape_exact.specs.Yards.{PlainYard}
use Rattle.shape_exact.specs.declared.block.Block.{Block}
use Rattle.code_table.specs.declared.placement.Placement.{Placement}
use Rattle.code_table.specs.Placements.{IsPlacement, cost_at, placements}
use Rattle.plan_rule.specs.declared.literal.Literal.{Literal}
use Rattle.plan_rule.specs.Bounds.{MayFit}
use Rattle.plan_rule.specs.Choices.{Choices}
use Rattle.tardiness_bounds.specs.declared.standing.Standing.{Standing}
use Rattle.tardiness_bounds.specs.Standings.{IsClear}

-- a placement of the block that is clear of the blocks that stand and of the pieces, and costs at most so much
pub record IsOpen (yard : PlainYard) (list : List Standing) (b most : ℕ) (p : Placement) : Type 0 where
  pub block : Block
  pub block_is : slice_get yard.blocks b ≡ Some block
  pub placement : IsPlacement yard block p
  pub clear : IsClear yard list b p
  pub cheap : cost_at block p ≤ most

-- a code of such a placement
abbrev pub IsCheap : PlainYard → List Standing → ℕ → ℕ → ℕ → Type 0
IsCheap yard list b most code = (p : Placement) × (slice_get (placements yard b) code ≡ Some p) × IsOpen yard list b most p

-- a code that fits the box and costs at most so much
abbrev pub MayFitUpTo : Choices → List Literal → ℕ → ℕ → ℕ → Type 0
MayFitUpTo c box b most code = MayFit c box b code × (c.cost b code ≤ most)

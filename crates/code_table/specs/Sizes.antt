-- What a yard has whose blocks have codes.
use Rattle.std.specs.Prelude.{ℕ, ◌≤◌, ◌<◌, length}
use Rattle.shape_exact.specs.Yards.{PlainYard}
use Rattle.code_table.specs.Placements.{placements}

-- the most placements that a block may have
abbrev pub most_placements : ℕ
most_placements = 1048576

-- a yard with a plate and a block, none of whose blocks has too many placements
pub record CanBePlanned (yard : PlainYard) : Type 0 where
  pub plates : 1 ≤ length yard.plates
  pub blocks : 1 ≤ length yard.blocks
  pub few : (b : ℕ) → b < length yard.blocks → length (placements yard b) ≤ most_placements

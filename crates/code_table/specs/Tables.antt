-- What a table of codes keeps of a yard and its blocks.
use Rattle.std.specs.Prelude.{◌≡◌, ℕ, ◌+◌, ◌≤◌, ◌<◌, List, Some, length, map, slice_get, slice_index}
use Rattle.shape_exact.specs.Yards.{PlainYard, IsYard}
use Rattle.shape_exact.specs.Shapes.{turned, cells}
use Rattle.shape_exact.specs.declared.block.Block.{Block}
use Rattle.plate_calendar.specs.Calendars.{open_days}
use Rattle.code_table.specs.declared.table.Table.{Table}
use Rattle.code_table.specs.Costs.{IsLeastCost}
use Rattle.code_table.specs.Placements.{placements_of}
use Rattle.code_table.specs.Sizes.{most_placements}
use Rattle.code_table.specs.Stands.{stands, sum_to}

-- before each stand, how many placements the stands before it have, and last how many all have
pub record IsSums (yard : PlainYard) (block : Block) (sums : List ℕ) : Type 0 where
  pub len : length sums ≡ stands yard + 1
  pub counted : (k : ℕ) → k ≤ stands yard → slice_index sums k ≡ sum_to yard block k

-- the table of a block: its shape in the four turns, its cells, its sums, its number of placements and their least cost
pub record IsTable (yard : PlainYard) (block : Block) (t : Table) : Type 0 where
  pub turns : length t.shapes.items ≡ 4
  pub shapes : (q : ℕ) → q < 4 → slice_get t.shapes.items q ≡ Some (turned q block.shape)
  pub cells_are : t.cells ≡ cells block.shape
  pub sums : IsSums yard block t.sums.items
  pub count : t.count ≡ length (placements_of yard block)
  pub least_is : IsLeastCost block (placements_of yard block) t.least
  pub few : length (placements_of yard block) ≤ most_placements

-- each block has its table
pub record AreTables (yard : PlainYard) (tables : List Table) : Type 0 where
  pub one_each : length tables ≡ length yard.blocks
  pub each_is : (b : ℕ) (block : Block) (t : Table) → slice_get yard.blocks b ≡ Some block → slice_get tables b ≡ Some t → IsTable yard block t

-- a yard with the calendars of its plates and the tables of its blocks
pub record IsCoded (yard : PlainYard) (calendars : List (List ℕ)) (kept : List Table) : Type 0 where
  pub limits : IsYard yard
  pub some_plates : 1 ≤ length yard.plates
  pub some_blocks : 1 ≤ length yard.blocks
  pub days : calendars ≡ map (λ p. open_days yard.days p.closed) yard.plates
  pub tables : AreTables yard kept

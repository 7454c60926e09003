use Rattle.std.proofs.Common.{◌≡◌, ℕ, Some, length}
use Rattle.std.specs.Prelude.{slice_get}
use Rattle.shape_exact.specs.declared.block.Block.{Block}
use Rattle.code_table.specs.declared.table.Table.{Table}
use Rattle.code_table.specs.Tables.{IsTable}
use Rattle.code_table.proofs.table.tables_of.Given as goal

-- each block so far has its table
abbrev pub invariant-loop-block : goal.invariant-loop-block
invariant-loop-block l =
    (length l.tables.items ≡ l.block-index)
    × ((b : ℕ) (block : Block) (t : Table) → slice_get l.blocks b ≡ Some block → slice_get l.tables.items b ≡ Some t → IsTable l.yard block t)

-- Blocks with too many placements.
use Rattle.std.specs.Prelude.{ℕ, Option, nat_lt, length}
use Rattle.common_lists.specs.Firsts.{first_below, where_so}
use Rattle.shape_exact.specs.Yards.{PlainYard}
use Rattle.code_table.specs.Placements.{placements}
use Rattle.code_table.specs.Sizes.{most_placements}
use Rattle.yard_file.specs.declared.fault.YardFault.{YardFault}
use Rattle.yard_file.specs.declared.fault.YardFault.TheVariants.{TooManyPlacements}

-- the fault of a block with more placements than a block may have
unfoldable pub too_many : PlainYard → ℕ → Option YardFault
too_many yard b =
    where_so (nat_lt most_placements (length (placements yard b))) (TooManyPlacements b (length (placements yard b)))

-- the fault of the first such block
abbrev pub first_too_many : PlainYard → Option YardFault
first_too_many yard = first_below (length yard.blocks) (too_many yard)

use Rattle.std.proofs.Common.{ℕ, ◌≤◌, ◌<◌, length}
use Rattle.code_table.specs.Placements.{placements}
use Rattle.code_table.specs.Sizes.{most_placements}
use Rattle.code_table.proofs.sizes.are_few.Given as goal

-- each block so far has few placements
abbrev pub invariant-loop-block : goal.invariant-loop-block
invariant-loop-block l = (b : ℕ) → b < l.block → length (placements l.yard b) ≤ most_placements

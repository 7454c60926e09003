use Rattle.std.proofs.Common.{◌-◌, length}
use Rattle.code_table.specs.Placements.{placements}
use Rattle.branch_search.proofs.levels.levels_of.Given as goal

abbrev pub decreases-loop-code : goal.decreases-loop-code
decreases-loop-code l = length (placements l.codes l.block) - l.code

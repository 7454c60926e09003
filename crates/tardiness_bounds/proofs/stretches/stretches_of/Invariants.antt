use Rattle.std.proofs.Common.{◌-◌}
use Rattle.std.specs.Prelude.{All}
use Rattle.code_table.specs.Placements.{placements}
use Rattle.code_table.specs.Stretches.{IsStretch}
use Rattle.tardiness_bounds.proofs.stretches.stretches_of.Given as goal

-- each so far is a stretch of the block's
abbrev pub invariant-loop-code : goal.invariant-loop-code
invariant-loop-code l = All (IsStretch (placements l.codes l.block)) l.list.items

abbrev pub decreases-loop-code : goal.decreases-loop-code
decreases-loop-code l = l.count - l.code

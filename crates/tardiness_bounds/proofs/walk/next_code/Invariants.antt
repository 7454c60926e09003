use Rattle.std.proofs.Common.{◌-◌, ◌≤◌, length}
use Rattle.code_table.specs.Placements.{placements}
use Rattle.tardiness_bounds.specs.Firsts.{HasNone}
use Rattle.tardiness_bounds.specs.Nexts.{IsCheap}
use Rattle.tardiness_bounds.specs.Walks.{IsWalk}
use Rattle.tardiness_bounds.proofs.walk.next_code.Given as goal

-- no code so far is free and costs at most so much
abbrev pub invariant-loop-walk : goal.invariant-loop-walk
invariant-loop-walk l = record {
  low : l.initial.walk.from ≤ l.walk.from;
  within : l.walk.from ≤ length (placements l.tables.yard l.block);
  walk : IsWalk l.tables.yard l.list l.block l.most l.walk;
  none : HasNone (IsCheap l.tables.yard l.list l.block l.most) l.initial.walk.from l.walk.from;
}

abbrev pub decreases-loop-walk : goal.decreases-loop-walk
decreases-loop-walk l = l.count - l.walk.from

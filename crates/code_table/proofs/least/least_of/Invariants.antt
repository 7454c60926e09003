use Rattle.common_lists.specs.Each.{each}
use Rattle.code_table.specs.Costs.{IsLeastCost}
use Rattle.code_table.specs.Stands.{nth_stand}
use Rattle.code_table.proofs.least.least_of.Given as goal

-- the least cost of the stands so far
abbrev pub invariant-loop-k : goal.invariant-loop-k
invariant-loop-k l = IsLeastCost l.block (each l.k (nth_stand l.yard l.block)) l.least

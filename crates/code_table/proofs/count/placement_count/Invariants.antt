use Rattle.std.proofs.Common.{◌≡◌, ◌≤◌, ◌*◌}
use Rattle.code_table.specs.Stands.{sum_to}
use Rattle.code_table.proofs.count.placement_count.Given as goal

-- the placements of the stands so far
abbrev pub invariant-loop-k : goal.invariant-loop-k
invariant-loop-k l = (l.count ≡ sum_to l.yard l.block l.k) × (l.count ≤ l.k * 160801)

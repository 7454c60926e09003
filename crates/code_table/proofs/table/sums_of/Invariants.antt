use Rattle.std.proofs.Common.{◌≡◌, ℕ, ◌<◌, length, get_or}
use Rattle.code_table.specs.Stands.{sum_to}
use Rattle.code_table.proofs.table.sums_of.Given as goal

-- the sums of the stands so far, and what these have together
abbrev pub invariant-loop-k : goal.invariant-loop-k
invariant-loop-k l =
    (length l.sums.items ≡ l.k) × (l.total ≡ sum_to l.yard l.block l.k)
    × ((j : ℕ) → j < l.k → get_or l.sums.items j 0 ≡ sum_to l.yard l.block j)

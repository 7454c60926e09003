use Rattle.std.proofs.Common.{◌-◌, ◌≤◌, ◌<◌, length, get_or}
use Rattle.code_table.proofs.search.place_of.Given as goal

-- the number lies between the sums at both ends
abbrev pub invariant-loop-high : goal.invariant-loop-high
invariant-loop-high l =
    (l.low < l.high) × (l.high < length l.sums) × (get_or l.sums l.low 0 ≤ l.number) × (l.number < get_or l.sums l.high 0)

abbrev pub decreases-loop-high : goal.decreases-loop-high
decreases-loop-high l = l.high - l.low

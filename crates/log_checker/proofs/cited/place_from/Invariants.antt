use Rattle.std.proofs.Common.{ℕ, ◌-◌, ◌<◌, ◌≤◌, length, get_or}
use Rattle.plan_rule.specs.declared.literal.Literal.{Literal}
use Rattle.log_checker.proofs.cited.place_from.Given as goal

abbrev pub invariant-loop-at : goal.invariant-loop-at
invariant-loop-at l = record {
  low : l.from ≤ l.at;
  high : l.at ≤ length l.list;
  before : (k : ℕ) (d : Literal) → l.from ≤ k → k < l.at → (get_or l.list k d).block < l.block;
}

abbrev pub decreases-loop-at : goal.decreases-loop-at
decreases-loop-at l = length l.list - l.at

use Rattle.std.proofs.Common.{ℕ, ◌-◌, ◌<◌, ◌≤◌, length}
use Rattle.log_checker.specs.Spans.{InOne}
use Rattle.log_checker.specs.Walks.{ArePassed}
use Rattle.log_checker.proofs.walk.Walk.on_from.Given as goal

abbrev pub invariant-loop-passed : goal.invariant-loop-passed
invariant-loop-passed l = record {
  within : l.passed ≤ length l.spans;
  passed : ArePassed l.spans l.passed l.code;
  forward : l.fn.self.code ≤ l.code;
  from : l.fn.from ≤ l.code;
  skipped : (k : ℕ) → (l.fn.self.code ≤ k) × (l.fn.from ≤ k) → k < l.code → InOne l.spans k;
}

abbrev pub decreases-loop-passed : goal.decreases-loop-passed
decreases-loop-passed l = length l.spans - l.passed

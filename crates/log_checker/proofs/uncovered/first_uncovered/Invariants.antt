use Rattle.std.proofs.Common.{ℕ, ◌-◌, ◌<◌, ◌≤◌, length}
use Rattle.log_checker.specs.Spans.{InOne}
use Rattle.log_checker.specs.Masks.{AreTold}
use Rattle.log_checker.specs.Walks.{ArePassed, IsSettled}
use Rattle.log_checker.proofs.uncovered.first_uncovered.Given as goal

abbrev pub invariant-loop-walk : goal.invariant-loop-walk
invariant-loop-walk l = record {
  from : l.lo ≤ l.walk.code;
  told : AreTold l.codes l.masks;
  settled : (k : ℕ) → l.lo ≤ k → k < l.walk.code → k < l.hi → IsSettled l.codes l.block l.cut l.exacts l.spans k;
  within : l.walk.passed ≤ length l.spans;
  passed : ArePassed l.spans l.walk.passed l.walk.code;
  left : InOne l.spans l.walk.code → ⊥;
}

abbrev pub decreases-loop-walk : goal.decreases-loop-walk
decreases-loop-walk l = l.hi - l.walk.code

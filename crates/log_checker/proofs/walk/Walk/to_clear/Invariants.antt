use Rattle.std.proofs.Common.{ℕ, ◌-◌, ◌<◌, ◌≤◌, ◌⊎◌, length}
use Rattle.log_checker.specs.Masks.{AreTold}
use Rattle.log_checker.specs.Spans.{InOne}
use Rattle.log_checker.specs.Walks.{ArePassed, IsHindered}
use Rattle.log_checker.proofs.walk.Walk.to_clear.Given as goal

abbrev pub invariant-loop-walk : goal.invariant-loop-walk
invariant-loop-walk l = record {
  forward : l.fn.self.code ≤ l.walk.code;
  within : l.walk.passed ≤ length l.spans;
  passed : ArePassed l.spans l.walk.passed l.walk.code;
  left : InOne l.spans l.walk.code → ⊥;
  told : AreTold l.codes l.masks;
  skipped : (k : ℕ) → l.fn.self.code ≤ k → k < l.walk.code → InOne l.spans k ⊎ IsHindered l.codes l.exacts l.block k;
}

abbrev pub decreases-loop-walk : goal.decreases-loop-walk
decreases-loop-walk l = l.to - l.walk.code

use Rattle.std.proofs.Common.{ℕ, ◌-◌, length}
use Rattle.plan_rule.specs.Choices.{blocks}
use Rattle.plan_rule.specs.Fronts.{IsLeft, IsRange}
use Rattle.plan_rule.specs.Yards.{choices}
use Rattle.plan_rule.proofs.region.settle.Given as goal

abbrev pub invariant-loop-made : goal.invariant-loop-made
invariant-loop-made l = record {
  range : IsRange (choices l.codes) l.made;
  part : (front w : ℕ) → IsLeft (choices l.codes) front w l.fn.left → IsLeft (choices l.codes) front w l.made;
}

abbrev pub decreases-loop-made : goal.decreases-loop-made
decreases-loop-made l = blocks (choices l.codes) - length l.made.exact

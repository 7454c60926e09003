use Rattle.std.proofs.Common.{◌≤◌, length}
use Rattle.plan_rule.specs.Yards.{choices}
use Rattle.plan_rule.proofs.CoverLaws.{CoveredTo, Passed}
use Rattle.plan_rule.proofs.plan_box.PlanBox.contains.Given as goal

abbrev pub invariant-loop-l : goal.invariant-loop-l
invariant-loop-l l = record {
  covered : CoveredTo (choices l.codes) l.l-items l.others l.l-index;
  within : l.at ≤ length l.others;
  passed : Passed l.l-items l.others l.l-index l.at;
}

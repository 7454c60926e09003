use Rattle.plan_rule.proofs.BehindLaws.{Agrees}
use Rattle.plan_rule.proofs.plan_box.PlanBox.behind.Given as goal

abbrev pub invariant-loop-i : goal.invariant-loop-i
invariant-loop-i l = Agrees l.l-items l.codes l.i

use Rattle.std.proofs.Common.{ℕ, ◌<◌, get_or}
use Rattle.plan_rule.specs.declared.literal.Literal.{Literal}
use Rattle.plan_rule.proofs.BoxLaws.{HoldsCode}
use Rattle.plan_rule.proofs.plan_box.PlanBox.holds.Given as goal

abbrev pub invariant-loop-l : goal.invariant-loop-l
invariant-loop-l l = (k : ℕ) (d : Literal) → k < l.l-index → HoldsCode l.plan (get_or l.l-items k d)

use Rattle.plan_rule.proofs.LimitLaws.{total-below}
use Rattle.plan_rule.proofs.ReportLaws.{merged}
use Rattle.plan_rule.specs.Yards.{choices}
use Rattle.plan_rule.proofs.laws.reports_give_best.Goals as goal

pub returns : goal.returns
returns c = λ reports t are best.
    merged (choices c.args.codes.now) reports t (record { total_fits = λ p is. total-below c.args.codes.now p c.limits.ensures.limits is }) are best

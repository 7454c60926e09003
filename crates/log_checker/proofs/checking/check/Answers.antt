use Rattle.std.proofs.Common.{rules}
use Rattle.plan_rule.specs.Yards.{choices}
use Rattle.log_checker.specs.declared.verdict.Verdict.TheVariants as verdict
use Rattle.log_checker.proofs.VerdictLaws.{answer_best, answer_decides, verdict_decides}
use Rattle.log_checker.proofs.checking.check.Goals as goal

pub returns-clause-verdict : goal.returns-clause-verdict
returns-clause-verdict c = search rules

pub returns-clause-accepted : goal.returns-clause-accepted
returns-clause-accepted c = answer_decides (choices c.args.codes.now) _ c.args.log.now _ (returns-clause-verdict c)

pub returns-clause-best : goal.returns-clause-best
returns-clause-best c = answer_best c.args.codes.now _ c.args.log.now _ c.limits.ensures.limits (returns-clause-verdict c)

pub returns-in-Some-clause-accepted : goal.returns-in-Some-clause-accepted
returns-in-Some-clause-accepted c =
    verdict_decides (choices c.args.codes.now) _ c.args.log.now (verdict.Refused c.in-Some.refused) (c.in-Some.ensures c.args.log.now)

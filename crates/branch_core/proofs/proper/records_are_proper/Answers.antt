use Rattle.plan_rule.specs.Yards.{choices}
use Rattle.branch_kernel.proofs.KnownLaws.{known}
use Rattle.branch_core.proofs.ProperLaws.{proper_from}
use Rattle.branch_core.proofs.proper.records_are_proper.Goals as goal

pub returns : goal.returns
unfolding choices
returns c = λ t steps.
    proper_from (choices c.args.codes.now) t c.args.log.now c.args.from (known c.args.codes.now c.limits.ensures.limits c.limits.ensures.few)
    c.limits.ensures.limits.days.1 c.citations_ascend.ensures steps

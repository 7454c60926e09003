use Rattle.plan_rule.specs.Yards.{choices}
use Rattle.branch_kernel.proofs.KnownLaws.{known}
use Rattle.branch_core.proofs.AnswerLaws.{steps_of_best}
use Rattle.branch_core.proofs.laws.records_are_steps.Goals as goal

pub returns : goal.returns
returns c = steps_of_best (choices c.args.codes.now) (known c.args.codes.now c.limits.ensures.limits c.limits.ensures.few).small

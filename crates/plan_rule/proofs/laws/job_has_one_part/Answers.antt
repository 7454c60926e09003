use Rattle.plan_rule.proofs.OnePartLaws.{one_part}
use Rattle.plan_rule.specs.Yards.{choices}
use Rattle.plan_rule.proofs.laws.job_has_one_part.Goals as goal

pub returns : goal.returns
returns c = one_part (choices c.args.codes.now) c.args.job

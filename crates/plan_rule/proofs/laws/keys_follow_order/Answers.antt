use Rattle.plan_rule.proofs.PathLaws.{key-before}
use Rattle.plan_rule.specs.Yards.{choices}
use Rattle.plan_rule.proofs.laws.keys_follow_order.Goals as goal

pub returns : goal.returns
returns c = key-before (choices c.args.codes.now)

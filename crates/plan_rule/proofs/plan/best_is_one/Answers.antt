use Rattle.plan_rule.specs.Yards.{choices}
use Rattle.plan_rule.proofs.OrderLaws.{best_same}
use Rattle.plan_rule.proofs.plan.best_is_one.Goals as goal

pub returns : goal.returns
returns c = best_same (choices c.args.codes.now) c.args.one.now c.args.two.now c.requires.one c.requires.two

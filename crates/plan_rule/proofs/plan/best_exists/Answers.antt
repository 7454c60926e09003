use Rattle.plan_rule.specs.Yards.{choices}
use Rattle.plan_rule.proofs.ExistLaws.{best_exists}
use Rattle.plan_rule.proofs.TellLaws.{told}
use Rattle.plan_rule.proofs.plan.best_exists.Goals as goal

pub returns : goal.returns
returns c = best_exists (choices c.args.codes.now) (told c.args.codes.now c.limits.ensures.limits) c.args.plan.now c.requires

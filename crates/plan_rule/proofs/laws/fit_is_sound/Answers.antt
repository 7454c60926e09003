use Rattle.plan_rule.proofs.BoundLaws.{fit-at_most}
use Rattle.plan_rule.specs.Yards.{choices}
use Rattle.plan_rule.proofs.laws.fit_is_sound.Goals as goal

pub returns : goal.returns
returns c = λ q r f h b. fit-at_most (choices c.args.codes.now) c.args.side.now q r c.requires f h b

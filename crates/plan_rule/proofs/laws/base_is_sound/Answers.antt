use Rattle.plan_rule.proofs.BoundLaws.{base-at_most}
use Rattle.plan_rule.specs.Yards.{choices}
use Rattle.plan_rule.proofs.laws.base_is_sound.Goals as goal

pub returns : goal.returns
returns c = λ q r f h b. base-at_most (choices c.args.codes.now) c.args.side.now q r f.is_plan h b

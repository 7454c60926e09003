use Rattle.plan_rule.proofs.EnergyLaws.{energy-at_most}
use Rattle.plan_rule.proofs.YardLaws.{packed}
use Rattle.plan_rule.specs.Yards.{choices}
use Rattle.plan_rule.proofs.laws.energy_is_sound.Goals as goal

pub returns : goal.returns
returns c = λ q r f h b.
    energy-at_most (choices c.args.codes.now) c.args.first c.args.last c.args.side.now r q (packed c.args.codes.now c.limits.ensures.limits) b f h

use Rattle.plan_rule.proofs.LimitLaws.{total-below, key-below}
use Rattle.plan_rule.proofs.laws.keys_are_small.Goals as goal

pub returns : goal.returns
returns c = record {
  total = λ p is. total-below c.args.codes.now p c.limits.ensures.limits is;
  key = λ p is. key-below c.args.codes.now p c.limits.ensures.limits is;
}

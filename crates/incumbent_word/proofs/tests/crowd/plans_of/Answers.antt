use Rattle.plan_rule.specs.Plans.{IsFeasible}
use Rattle.plan_rule.specs.Yards.{choices}
use Rattle.incumbent_word.proofs.PairLaws.{pushed}
use Rattle.incumbent_word.proofs.tests.crowd.plans_of.Goals as goal

pub loop-first-preserved : goal.loop-first-preserved
loop-first-preserved g c =
    pushed (IsFeasible (choices c.args.codes.now)) _ _ _ _ _ c.push.ensures.items c.expect.ensures c.loop-first.invariant c.plan_of-plan.ensures

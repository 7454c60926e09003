use Rattle.plan_rule.specs.Yards.{choices}
use Rattle.branch_kernel.proofs.NodeLaws.{held_answer}
use Rattle.branch_kernel.proofs.plans.take_plan.Goals as goal

pub is_better-better-requires-clause-best : goal.is_better-better-requires-clause-best
is_better-better-requires-clause-best g c = held_answer (choices c.args.codes.now) _ _ c.requires.held

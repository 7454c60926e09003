use Rattle.std.proofs.Common.{arith, below_more}
use Rattle.plan_rule.proofs.ClashLaws.{clear_plan}
use Rattle.plan_rule.proofs.clashes.first_clash.Goals as goal

pub loop-block-preserved : goal.loop-block-preserved
loop-block-preserved c = below_more _ _ c.loop-block.invariant c.in_default.ensures

pub returns : goal.returns
returns c = clear_plan c.args.codes.now c.args.plan.now c.requires (λ a l. c.loop-block.invariant a (omega arith))

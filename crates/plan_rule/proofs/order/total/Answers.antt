use Rattle.std.proofs.Common.{◌<◌, arith}
use Rattle.plan_rule.specs.Choices.{blocks}
use Rattle.plan_rule.specs.Yards.{choices}
use Rattle.plan_rule.proofs.CountLaws.{block_exists, plan_code, plan_cost, sum_more}
use Rattle.plan_rule.proofs.order.total.Goals as goal

pub own_cost-sum-requires-clause-block : goal.own_cost-sum-requires-clause-block
own_cost-sum-requires-clause-block c =
    let l : c.loop-block.block < blocks (choices c.args.codes.now) = omega arith in
    block_exists _ _ l

pub own_cost-sum-requires-clause-code : goal.own_cost-sum-requires-clause-code
own_cost-sum-requires-clause-code c =
    let l : c.loop-block.block < blocks (choices c.args.codes.now) = omega arith in
    plan_code c.args.codes.now c.args.plan.now _ c.loop-block.block c.requires c.codes-list.ensures l

pub loop-block-preserved : goal.loop-block-preserved
loop-block-preserved c = record {
  value = sum_more (choices c.args.codes.now) c.args.plan.now c.loop-block.block c.loop-block.sum c.own_cost-sum.result
      c.loop-block.invariant.value
      (plan_cost c.args.codes.now c.args.plan.now _ c.loop-block.block _ c.codes-list.ensures c.own_cost-sum.ensures.value);
  limit = omega arith;
}

use Rattle.std.proofs.Common.{arith}
use Rattle.plan_rule.specs.Bounds.{MayFit}
use Rattle.plan_rule.specs.Yards.{choices}
use Rattle.plan_rule.proofs.RestLaws.{sum_more}
use Rattle.tardiness_bounds.specs.Standings.{literals_of}
use Rattle.tardiness_bounds.proofs.frontier.sum_of.Goals as goal

pub loop-block-preserved : goal.loop-block-preserved
loop-block-preserved c = record {
  value = sum_more (MayFit (choices c.args.tables.now.yard) (literals_of c.args.list.now)) (choices c.args.tables.now.yard).cost c.loop-block.block c.loop-block.sum
      c.in_ok-sum.field-0 c.loop-block.invariant.value c.in_ok-sum.ensures.least;
  limit = (let f = c.in_ok-sum.ensures.few in let l = c.loop-block.invariant.limit in omega arith);
}

use Rattle.std.proofs.Common.{◌<◌, arith}
use Rattle.plan_rule.specs.Choices.{blocks}
use Rattle.plan_rule.specs.Yards.{choices}
use Rattle.plan_rule.proofs.CountLaws.{block_exists}
use Rattle.scheduler_run.proofs.LoadLaws.{count_more}
use Rattle.scheduler_run.proofs.load_command.count_placements.Goals as goal

pub count-sum-requires : goal.count-sum-requires
count-sum-requires c =
    let l : c.loop-block.block < blocks (choices c.args.codes.now) = omega arith in
    block_exists _ _ l

pub loop-block-preserved : goal.loop-block-preserved
loop-block-preserved c =
    let l : c.loop-block.block < blocks (choices c.args.codes.now) = omega arith in
    record {
      value = count_more c.args.codes.now c.loop-block.block c.loop-block.sum c.count-sum.result l
          c.loop-block.invariant.value c.count-sum.ensures.value;
      limit = omega arith;
    }

use Rattle.std.proofs.Common.{arith}
use Rattle.plan_rule.specs.Yards.{choices}
use Rattle.branch_core.proofs.SolveLaws.{front_more}
use Rattle.branch_core.proofs.front.front_side.Goals as goal

pub loop-block-preserved : goal.loop-block-preserved
loop-block-preserved c =
    let here = c.loop-block-test.true in
    let top = c.requires.upto in
    let (exists, below) = c.requires.exist c.loop-block.block (omega arith) in
    front_more (choices c.args.codes.now) c.args.front.now c.loop-block.block _ c.in_ok-side-2.side c.exact.result exists below c.loop-block.invariant c.exact.ensures c.in_ok-side-2.ensures

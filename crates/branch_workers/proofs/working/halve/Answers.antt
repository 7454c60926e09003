use Rattle.std.proofs.Common.{arith}
use Rattle.plan_rule.specs.Yards.{choices}
use Rattle.branch_workers.proofs.WeighLaws.{halved, taken_in}
use Rattle.branch_workers.proofs.working.halve.Goals as goal

pub loop-part-init : goal.loop-part-init
loop-part-init c = taken_in (choices c.args.codes.now) c.args.split c.args.job c.args.owner.now c.requires.job

pub loop-part-preserved : goal.loop-part-preserved
loop-part-preserved c =
    halved (choices c.args.codes.now) c.args.split c.args.job c.loop-part.part c.in-Some.low c.in-Some.high _ _ _ c.loop-part.invariant
    c.if-splits.ensures (omega arith) c.loop-part-test.true c.in-Some.ensures.1 c.in-Some.ensures.2 c.push.ensures

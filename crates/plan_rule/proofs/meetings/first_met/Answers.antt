use Rattle.std.proofs.Common.{arith}
use Rattle.plan_rule.specs.Yards.{choices}
use Rattle.plan_rule.proofs.MeetingLaws.{meets_next, meets_none}
use Rattle.plan_rule.proofs.meetings.first_met.Goals as goal

pub loop-block-preserved : goal.loop-block-preserved
loop-block-preserved c =
    meets_next (choices c.args.codes.now) c.args.plan.now c.codes-list.result.now c.loop-block.block c.codes-list.ensures c.loop-block.invariant c.in_default.ensures

pub returns : goal.returns
returns c = meets_none (choices c.args.codes.now) c.args.plan.now c.loop-block.block (omega arith) c.loop-block.invariant

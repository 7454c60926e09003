use Rattle.plan_rule.specs.Yards.{choices}
use Rattle.branch_core.proofs.RegionLaws.{clear_more}
use Rattle.branch_core.proofs.front.front_of.Goals as goal

pub loop-index-preserved : goal.loop-index-preserved
loop-index-preserved c =
    let (exists, below) = c.requires.exist c.loop-index.index c.loop-index-test.true in
    clear_more (choices c.args.codes.now) c.args.front.now c.loop-index.index _ c.in_ok-side-2.side c.exact.result c.requires.known exists below c.loop-index.invariant.0 c.loop-index.invariant.1
    c.in_default.ensures c.in_default-meets.ensures c.exact.ensures c.in_ok-side-2.ensures

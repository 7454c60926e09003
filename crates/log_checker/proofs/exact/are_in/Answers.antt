use Rattle.log_checker.proofs.PassedLaws.{among_more}
use Rattle.log_checker.proofs.exact.are_in.Goals as goal

pub loop-f-preserved : goal.loop-f-preserved
loop-f-preserved c =
    among_more c.args.list.now c.args.others.now c.loop-f.f-index _ c.loop-f-test.true (c.has.ensures c.if-not-has.false) c.loop-f.invariant

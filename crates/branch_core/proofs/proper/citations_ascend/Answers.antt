use Rattle.std.proofs.Common.{length, ap, arith}
use Rattle.branch_core.proofs.ProperLaws.{ascend_more, ascend_all}
use Rattle.branch_core.proofs.proper.citations_ascend.Goals as goal

pub loop-i-preserved : goal.loop-i-preserved
loop-i-preserved c =
    ascend_more c.args.log.now c.records.result.now c.args.from c.loop-i.i c.index-records-i.result c.index-records-i.result c.records.ensures.value c.index-records-i.is
    c.ascends.ensures c.loop-i.invariant

pub returns : goal.returns
returns c = ascend_all c.args.log.now c.args.from c.loop-i.i (let far = c.loop-i-test.false in let e = ap length c.records-i-end.ensures.value in omega arith) c.loop-i.invariant

use Rattle.std.proofs.Common.{ap, arith, length}
use Rattle.plan_rule.specs.Yards.{choices}
use Rattle.branch_workers.proofs.SharingLaws.{last_among, last_kept}
use Rattle.branch_workers.proofs.sharing.store_last.Goals as goal

pub keep_box-requires : goal.keep_box-requires
keep_box-requires c =
    let n = ap length c.records-records.ensures.value in let s = c.requires.some in
    last_among (choices c.args.codes.now) c.records-records.result.now c.args.log.now _ c.index-records-number.result c.in-Ok.part c.requires c.records-records.ensures.value (omega arith) c.index-records-number.is c.in-Ok.ensures

pub returns-clause-kept : goal.returns-clause-kept
returns-clause-kept c =
    let n = ap length c.records-records.ensures.value in let s = c.requires.some in
    last_kept (choices c.args.codes.now) c.records-records.result.now c.args.log.now _ c.index-records-number.result c.in-Ok.part _ _ c.records-records.ensures.value (omega arith) c.index-records-number.is c.in-Ok.ensures c.keep_box.ensures.kept

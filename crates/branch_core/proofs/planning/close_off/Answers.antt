use Rattle.std.proofs.Common.{sym, true≢false}
use Rattle.plan_rule.specs.Yards.{choices}
use Rattle.branch_core.proofs.AnswerLaws.{close_facts, closed_off}
use Rattle.branch_core.proofs.planning.close_off.Goals as goal

pub block_of_one_code-requires-clause-some : goal.block_of_one_code-requires-clause-some
block_of_one_code-requires-clause-some c =
    let (e, there, is) = c.requires.refutes in
    (close_facts (choices c.args.codes.now) c.args.log.now c.records.result.now c.args.last e c.index-records-last.result c.index-records-last.result c.root.result c.region_of-region.result
    c.records.ensures.value c.index-records-last.is there is c.root.ensures.value c.region_of-region.ensures (λ none. true≢false (sym (c.if-refutes_all.ensures.1 none)))).1

pub returns : goal.returns
returns c =
    let (e, there, is) = c.requires.refutes in
    let (whole, some) = close_facts (choices c.args.codes.now) c.args.log.now c.records.result.now c.args.last e c.index-records-last.result c.index-records-last.result c.root.result c.region_of-region.result
    c.records.ensures.value c.index-records-last.is there is c.root.ensures.value c.region_of-region.ensures (λ none. true≢false (sym (c.if-refutes_all.ensures.1 none))) in
    closed_off (choices c.args.codes.now) c.args.log.now c.write_branch.new.log c.block_of_one_code.result c.args.last e c.exact-range.result c.in_ok-side.side _ _ c.in_ok-write_branch.field-0
    c.block_of_one_code.ensures.block c.block_of_one_code.ensures.one c.requires.last there whole c.exact-range.ensures c.in_ok-side.ensures c.new-cites.ensures.items c.in_ok-push.ensures.items
    c.in_ok-write_branch.ensures

use Rattle.std.proofs.Common.{arith, ◌∙◌, sym, subst, length, ◌<◌, ◌^◌}
use Rattle.common_lists.proofs.ListLaws.{get_within}
use Rattle.plan_rule.specs.Yards.{choices}
use Rattle.plan_rule.proofs.CountLaws.{blocks-length, count-length}
use Rattle.log_merge.proofs.ClosingLaws.{closed_accepted, branch_is}
use Rattle.log_merge.proofs.closing.close_log.Goals as goal

pub new-requires-2 : goal.new-requires-2
new-requires-2 c =
    let few = subst (λ l. length l < 10 ^ 18) c.records-records.ensures.value c.records-records.ensures.few in
    let low = get_within c.args.log.now c.args.root c.requires.root c.requires.at in
    ((omega arith, tt), (omega arith, tt))

pub returns : goal.returns
returns c = λ t answer steps.
    let n = blocks-length c.args.codes.now in
    let e = count-length c.args.codes.now 0 c.limits.ensures.blocks in
    closed_accepted (choices c.args.codes.now) t c.args.log.now c.push.new.self c.args.root _ (let b = c.limits.ensures.blocks in omega arith) c.requires
    (branch_is (choices c.args.codes.now) c.count.result c.args.root _ _ (c.count.ensures.value ∙ sym e) c.in_ok-new.ensures c.in_ok-new-2.ensures) c.in_ok-push.ensures.ok answer steps

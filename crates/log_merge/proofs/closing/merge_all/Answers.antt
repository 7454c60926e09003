use Rattle.std.proofs.Common.{arith, subst}
use Rattle.plan_rule.specs.declared.job.Job.{Job}
use Rattle.plan_rule.specs.Yards.{choices}
use Rattle.plan_rule.proofs.CountLaws.{blocks-length}
use Rattle.log_merge.specs.Merging.{IsMerged}
use Rattle.log_merge.proofs.ClosingLaws.{merged_covers, merged_accepted}
use Rattle.log_merge.proofs.closing.merge_all.Goals as goal

pub close_log-requires : goal.close_log-requires
close_log-requires c =
    let n = blocks-length c.args.codes.now in
    let m = subst (λ (j : Job). IsMerged (choices c.args.codes.now) j c.args.leaves.now c.args.log.now c.merge.new.log c.in_ok-merged.merged.record c.in_ok-merged.merged.next) c.root.ensures.value c.in_ok-merged.ensures.merged in
    merged_covers (choices c.args.codes.now) c.args.log.now c.merge.new.log c.args.leaves.now c.in_ok-merged.merged.record c.in_ok-merged.merged.next (let b = c.limits.ensures.blocks in omega arith) c.requires.codes c.requires.exist m

pub returns : goal.returns
returns c =
    let m = subst (λ (j : Job). IsMerged (choices c.args.codes.now) j c.args.leaves.now c.args.log.now c.merge.new.log c.in_ok-merged.merged.record c.in_ok-merged.merged.next) c.root.ensures.value c.in_ok-merged.ensures.merged in
    merged_accepted c.close_log.result (choices c.args.codes.now) c.args.log.now c.merge.new.log c.close_log.new.log c.args.leaves.now c.in_ok-merged.merged.record c.in_ok-merged.merged.next m c.close_log.ensures

use Rattle.std.proofs.Common.{ap, arith, refl, sym, subst, ◌∙◌}
use Rattle.plan_rule.specs.Yards.{choices}
use Rattle.branch_workers.proofs.WeighLaws.{report_grown}
use Rattle.branch_workers.proofs.LoggedLaws.{grown_cites, grown_record, grown_seen, grown_trans, logged_on}
use Rattle.branch_workers.proofs.StockLaws.{stocked_seen}
use Rattle.branch_workers.proofs.ReportLaws.{seen_more}
use Rattle.branch_workers.proofs.SharingLaws.{same_seen}
use Rattle.branch_workers.proofs.working.take_job.Goals as goal

pub report_on-requires-clause-stocked : goal.report_on-requires-clause-stocked
report_on-requires-clause-stocked c =
    stocked_seen _ _ _ _ _ (seen_more _ _ _ (ap (λ s. s.seen) c.see-bar.ensures.seen)) c.requires.stocked

pub post_last-posted-requires-clause-earlier : goal.post_last-posted-requires-clause-earlier
post_last-posted-requires-clause-earlier c =
    grown_cites _ _ _ _ _ _ _ c.in_ok-report.ensures.searched.grown c.requires.logged

pub post_last-posted-requires-clause-seen : goal.post_last-posted-requires-clause-seen
post_last-posted-requires-clause-seen c = c.in_ok-report.ensures.searched.reported.seen_is

pub post_last-posted-requires-clause-postable : goal.post_last-posted-requires-clause-postable
post_last-posted-requires-clause-postable c = λ more tag last. c.in_ok-report.ensures.searched.postable (let e = c.len-stored.ensures in omega arith) tag last

pub take_in-requires-clause-stocked : goal.take_in-requires-clause-stocked
take_in-requires-clause-stocked c =
    stocked_seen _ _ _ _ _ (same_seen _ _ c.post_last-posted.ensures.seen) c.in_ok-report.ensures.searched.stocked

pub returns-clause-logged : goal.returns-clause-logged
returns-clause-logged c =
    let s = c.in_ok-report.ensures.searched in
    let first = grown_trans _ _ _ _ _ _ _ (grown_seen _ _ _ _ (seen_more _ _ _ (ap (λ s. s.seen) c.see-bar.ensures.seen))) s.grown in
    let posted = grown_seen (choices c.args.codes.now) c.report_on.new.log _ _ (same_seen _ _ c.post_last-posted.ensures.seen) in
    let rest = grown_trans _ _ _ _ _ _ _ posted c.in_ok-take_in.ensures.grown in
    logged_on _ _ _ _ _ _ _ c.in_ok-report.report (grown_trans _ _ _ _ _ _ _ first rest) (grown_record _ _ _ _ _ _ rest s.reported) c.in_ok-push.ensures c.requires.logged

pub returns-clause-stocked : goal.returns-clause-stocked
returns-clause-stocked c = c.in_ok-take_in.ensures.stocked

pub returns-clause-reported : goal.returns-clause-reported
returns-clause-reported c =
    report_grown _ _ _ _ _ _ c.in_ok-report.report c.halve-part.ensures.part_is c.in_ok-report.ensures.job c.in_ok-report.ensures.sound c.in_ok-push.ensures

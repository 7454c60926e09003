use Rattle.std.proofs.Common.{ap}
use Rattle.branch_workers.proofs.ReportLaws.{empty_searched}
use Rattle.branch_workers.proofs.reporting.report_on.Goals as goal

pub returns-then-is_empty-clause-searched : goal.returns-then-is_empty-clause-searched
returns-then-is_empty-clause-searched c =
    empty_searched _ _ _ c.args.job c.see-seen.result _ _ c.if-is_empty.ensures (ap (λ s. s.seen) c.see-seen.ensures.seen) c.requires.stocked

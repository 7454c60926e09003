use Rattle.std.proofs.Common.{◌≡◌, ◌++◌, map, take}
use Rattle.branch_workers.specs.Taken.{KeepsLeaves}
use Rattle.log_merge.specs.Leaves.{job_of}
use Rattle.branch_workers.specs.Work.{job_of_report}
use Rattle.branch_workers.proofs.logs.take_log.Given as goal

abbrev pub invariant-loop-report : goal.invariant-loop-report
invariant-loop-report l =
    (map job_of l.leaves.items ≡ map job_of l.initial.leaves.items ++ map job_of_report (take l.report-index l.reports))
    × KeepsLeaves l.fn.log l.own l.log l.initial.leaves.items (take l.report-index l.reports) l.leaves.items

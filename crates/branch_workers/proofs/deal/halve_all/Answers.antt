use Rattle.std.proofs.Common.{rules, get_or}
use Rattle.log_merge.specs.Tiles.{root}
use Rattle.branch_workers.proofs.DealLaws.{halved_onto}
use Rattle.branch_workers.proofs.deal.halve_all.Goals as goal

pub loop-job-preserved : goal.loop-job-preserved
loop-job-preserved c =
    halved_onto _ c.args.level c.args.jobs.now _ _ c.loop-job.job-index (get_or c.args.jobs.now c.loop-job.job-index root) (search rules) c.requires.dealt (search rules) (search rules) c.loop-job.invariant c.in_ok-push_halves.ensures

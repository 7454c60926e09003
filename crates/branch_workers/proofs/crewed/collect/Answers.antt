use Rattle.branch_workers.proofs.TraceLaws.{can_be_taken, collected_from}
use Rattle.branch_workers.proofs.crewed.collect.Goals as goal

pub take_logs-requires : goal.take_logs-requires
take_logs-requires c = can_be_taken _ _ c.requires.honest

pub returns-clause-collected : goal.returns-clause-collected
returns-clause-collected c =
    collected_from c.args.codes.now c.args.workers.now c.in_ok-reports.reports _ _ _ _ c.new-log.ensures c.new-leaves.ensures.items c.requires.honest c.in_ok-take_logs.ensures c.in_ok-reports.ensures.weighed

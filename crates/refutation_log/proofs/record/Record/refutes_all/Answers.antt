use Rattle.plan_rule.specs.Yards.{choices}
use Rattle.refutation_log.proofs.EmptyLaws.{record_empty}
use Rattle.refutation_log.proofs.record.Record.refutes_all.Goals as goal

pub returns-in-Branch : goal.returns-in-Branch
returns-in-Branch c = record_empty (choices c.args.codes.now) c.args.self.now c.in-Branch.block c.in-Branch.lo c.in-Branch.hi c.in-Branch.side c.in-Branch.cites c.is_over_all.result c.in-Branch.is c.is_over_all.ensures

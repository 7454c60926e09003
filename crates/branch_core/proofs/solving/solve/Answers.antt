use Rattle.std.proofs.Common.{None}
use Rattle.plan_rule.specs.Yards.{choices}
use Rattle.branch_core.proofs.EmptyLaws.{ends_self, on_err}
use Rattle.branch_core.proofs.ProperLaws.{proper_none}
use Rattle.branch_core.proofs.solving.solve.Goals as goal

pub returns-in_err-tables-clause-left : goal.returns-in_err-tables-clause-left
returns-in_err-tables-clause-left g c = on_err c.from_residual.result _ (None, ends_self (choices c.args.codes.now) _ c.args.log.now c.args.store.now)

pub returns-in_err-tables-clause-proper : goal.returns-in_err-tables-clause-proper
returns-in_err-tables-clause-proper g c = proper_none (choices c.args.codes.now) c.args.log.now

pub returns-in_err-hints-clause-left : goal.returns-in_err-hints-clause-left
returns-in_err-hints-clause-left g c = on_err c.from_residual-in_err-hints.result _ (None, ends_self (choices c.args.codes.now) _ c.args.log.now c.args.store.now)

pub returns-in_err-hints-clause-proper : goal.returns-in_err-hints-clause-proper
returns-in_err-hints-clause-proper g c = proper_none (choices c.args.codes.now) c.args.log.now

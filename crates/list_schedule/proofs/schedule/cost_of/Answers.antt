use Rattle.list_schedule.proofs.CodeLaws.{code_exists}
use Rattle.list_schedule.proofs.schedule.cost_of.Goals as goal

pub own_cost-requires-clause-block : goal.own_cost-requires-clause-block
own_cost-requires-clause-block c = (code_exists c.args.frontier.now.yard c.codes.result.now c.args.block c.args.code c.codes.ensures c.requires.is_code).0

pub own_cost-requires-clause-code : goal.own_cost-requires-clause-code
own_cost-requires-clause-code c = (code_exists c.args.frontier.now.yard c.codes.result.now c.args.block c.args.code c.codes.ensures c.requires.is_code).1

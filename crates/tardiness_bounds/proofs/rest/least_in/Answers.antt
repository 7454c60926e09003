use Rattle.std.proofs.Common.{sym}
use Rattle.plan_rule.specs.Yards.{choices}
use Rattle.plan_rule.proofs.CountLaws.{code_exists}
use Rattle.plan_rule.proofs.RestLaws.{exact_exists, least_exact, least_free}
use Rattle.tardiness_bounds.proofs.rest.least_in.Goals as goal

pub own_cost-requires-clause-code : goal.own_cost-requires-clause-code
own_cost-requires-clause-code c =
    code_exists c.args.codes.now c.args.block c.in-Some.code
    (exact_exists (choices c.args.codes.now) c.args.side.now c.args.block c.in-Some.code c.requires.side (sym c.in-Some.ensures))

pub returns-in-Some-clause-least : goal.returns-in-Some-clause-least
returns-in-Some-clause-least c =
    least_exact c.args.codes.now c.args.side.now c.args.block c.in-Some.code c.own_cost.result c.requires.side (sym c.in-Some.ensures) c.own_cost.ensures.value

pub returns-in-None-clause-least : goal.returns-in-None-clause-least
returns-in-None-clause-least c =
    least_free c.args.codes.now c.args.side.now c.args.block c.least_cost.result c.requires.block (sym c.in-None.ensures)
    c.least_cost.ensures.none c.least_cost.ensures.least c.least_cost.ensures.attained

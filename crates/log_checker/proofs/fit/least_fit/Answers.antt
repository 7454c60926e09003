use Rattle.std.proofs.Common.{sym}
use Rattle.plan_rule.specs.Yards.{choices}
use Rattle.plan_rule.proofs.CountLaws.{block_exists, code_exists}
use Rattle.plan_rule.proofs.RestLaws.{exact_exists}
use Rattle.log_checker.proofs.FreeLaws.{least_clear_fits}
use Rattle.log_checker.proofs.LeastLaws.{fits_exact}
use Rattle.log_checker.proofs.fit.least_fit.Goals as goal

pub own_cost-requires-clause-block : goal.own_cost-requires-clause-block
own_cost-requires-clause-block c = block_exists _ _ c.requires.block

pub own_cost-requires-clause-code : goal.own_cost-requires-clause-code
own_cost-requires-clause-code c =
    code_exists c.args.codes.now c.args.block c.in-Some.code
    (exact_exists (choices c.args.codes.now) c.args.side.now c.args.block c.in-Some.code c.requires.side (sym c.in-Some.ensures))

pub returns-in-Some-clause-value : goal.returns-in-Some-clause-value
returns-in-Some-clause-value c =
    fits_exact c.args.codes.now c.args.side.now c.args.block c.in-Some.code c.own_cost.result c.args.limit c.up_to.result c.requires.side
    (sym c.in-Some.ensures) c.own_cost.ensures.value c.up_to.ensures

pub returns-in-None-clause-value : goal.returns-in-None-clause-value
returns-in-None-clause-value c =
    least_clear_fits c.args.codes.now c.args.side.now c.args.exacts.now c.args.block c.args.limit c.least_free.result c.requires.exacts
    (sym c.in-None.ensures) c.least_free.ensures.value

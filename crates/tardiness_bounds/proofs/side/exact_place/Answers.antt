use Rattle.std.proofs.Common.{sym}
use Rattle.plan_rule.specs.Yards.{choices}
use Rattle.plan_rule.proofs.CountLaws.{block_exists, code_exists}
use Rattle.plan_rule.proofs.RestLaws.{exact_exists}
use Rattle.tardiness_bounds.proofs.side.exact_place.Goals as goal

pub place-requires-clause-block : goal.place-requires-clause-block
place-requires-clause-block c = block_exists _ _ c.requires.block

pub place-requires-clause-code : goal.place-requires-clause-code
place-requires-clause-code c =
    code_exists c.args.codes.now c.args.block c.in-Some.code
    (exact_exists (choices c.args.codes.now) c.args.part.now c.args.block c.in-Some.code c.requires.part (sym c.in-Some.ensures))

pub returns-in-Some : goal.returns-in-Some
returns-in-Some c = (c.in-Some.code, sym c.in-Some.ensures, c.place.ensures.value)

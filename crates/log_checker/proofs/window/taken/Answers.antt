use Rattle.plan_rule.proofs.CountLaws.{block_exists, code_exists}
use Rattle.std.proofs.Common.{◌∙◌}
use Rattle.plan_rule.proofs.WindowLaws.{taken_of}
use Rattle.log_checker.proofs.window.taken.Goals as goal

pub place-place-requires-clause-block : goal.place-place-requires-clause-block
place-place-requires-clause-block c = block_exists _ _ c.requires.0

pub place-place-requires-clause-code : goal.place-place-requires-clause-code
place-place-requires-clause-code c = code_exists _ _ _ c.requires

pub cells-requires : goal.cells-requires
cells-requires c = block_exists _ _ c.requires.0

pub returns-clause-value : goal.returns-clause-value
returns-clause-value c =
    taken_of c.args.codes.now c.args.window.from c.args.window.to c.args.block c.args.code c.max-first.result c.min-last.result
    c.from.result c.from-2.result c.place-place.result c.calendar.result.now c.requires c.place-place.ensures.value
    (c.from.ensures ∙ c.open_between-days.ensures) c.max-first.ensures c.min-last.ensures c.calendar.ensures
    (λ block at. c.from-2.ensures ∙ c.cells.ensures block at)

use Rattle.std.proofs.Common.{sym, ◌∙◌}
use Rattle.plan_rule.proofs.CountLaws.{block_exists}
use Rattle.log_checker.proofs.WindowLaws.{work_pressing}
use Rattle.log_checker.proofs.window.work_in.Goals as goal

pub block_at-data-requires : goal.block_at-data-requires
block_at-data-requires c = block_exists _ _ c.requires

pub cells-requires : goal.cells-requires
cells-requires c = block_exists _ _ c.requires

pub returns-clause-value : goal.returns-clause-value
returns-clause-value c =
    work_pressing c.args.codes.now c.args.side.now c.args.window.from c.args.window.to c.args.block c.from.result c.from-2.result c.block_at-data.result.now
    (sym c.presses.ensures ∙ c.if-not-presses.false) c.block_at-data.ensures.value c.from.ensures
    (c.from-2.ensures ∙ c.cells.ensures c.block_at-data.result.now c.block_at-data.ensures.value)

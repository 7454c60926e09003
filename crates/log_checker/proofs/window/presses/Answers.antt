use Rattle.std.proofs.Common.{sym, ap, ◌∙◌}
use Rattle.std.specs.Prelude.{nat_le, ◌&&◌}
use Rattle.std.proofs.lemmas.Bool.{and_left, le-leb, lt-leb}
use Rattle.plan_rule.proofs.CountLaws.{block_exists}
use Rattle.plan_rule.proofs.WindowLaws.{presses_free}
use Rattle.log_checker.proofs.WindowLaws.{none_of}
use Rattle.log_checker.proofs.window.presses.Goals as goal

pub block_at-data-requires : goal.block_at-data-requires
block_at-data-requires c = block_exists _ _ c.requires

pub returns-then-window-data : goal.returns-then-window-data
returns-then-window-data c =
    sym
    (presses_free c.args.codes.now c.args.side.now c.args.window.from c.args.window.to c.args.block c.block_at-data.result.now
    (none_of _ _ c.exact_code.ensures (sym c.is_some.ensures ∙ c.if-is_some.false)) c.block_at-data.ensures.value
    ∙ ap (λ t. t && nat_le c.block_at-data.result.now.due c.args.window.to) (le-leb _ _ c.if-window-data.true))

pub returns-else-window-data : goal.returns-else-window-data
returns-else-window-data c =
    lt-leb _ _ c.if-window-data.false
    ∙ sym
    (presses_free c.args.codes.now c.args.side.now c.args.window.from c.args.window.to c.args.block c.block_at-data.result.now
    (none_of _ _ c.exact_code.ensures (sym c.is_some.ensures ∙ c.if-is_some.false)) c.block_at-data.ensures.value
    ∙ and_left _ _ (lt-leb _ _ c.if-window-data.false))

use Rattle.std.proofs.Common.{sym, ap, ◌∙◌}
use Rattle.std.specs.Prelude.{nat_le, ◌&&◌}
use Rattle.std.proofs.lemmas.Bool.{and_left, le-leb, lt-leb}
use Rattle.plan_rule.proofs.CountLaws.{block_exists}
use Rattle.plan_rule.proofs.WindowLaws.{presses_free, presses_exact}
use Rattle.tardiness_bounds.proofs.SideLaws.{has_entry, no_exact, some_exact}
use Rattle.plan_rule.specs.Yards.{choices}
use Rattle.tardiness_bounds.proofs.window.presses.Goals as goal

pub block_at-data-requires : goal.block_at-data-requires
block_at-data-requires c = block_exists _ _ c.requires.block

pub returns-then-window-data : goal.returns-then-window-data
returns-then-window-data c =
    sym
    (presses_free c.args.codes.now c.args.side.now.literals c.args.window.from c.args.window.to c.args.block c.block_at-data.result.now
    (no_exact c.args.codes.now c.args.side.now c.args.block c.place-place.result c.requires.side c.place-place.ensures (sym c.is_some.ensures ∙ c.if-is_some.false)) c.block_at-data.ensures.value
    ∙ ap (λ t. t && nat_le c.block_at-data.result.now.due c.args.window.to) (le-leb _ _ c.if-window-data.true))

pub returns-else-window-data : goal.returns-else-window-data
returns-else-window-data c =
    lt-leb _ _ c.if-window-data.false
    ∙ sym
    (presses_free c.args.codes.now c.args.side.now.literals c.args.window.from c.args.window.to c.args.block c.block_at-data.result.now
    (no_exact c.args.codes.now c.args.side.now c.args.block c.place-place.result c.requires.side c.place-place.ensures (sym c.is_some.ensures ∙ c.if-is_some.false)) c.block_at-data.ensures.value
    ∙ and_left _ _ (lt-leb _ _ c.if-window-data.false))

pub place-place-requires : goal.place-place-requires
place-place-requires c = has_entry c.args.codes.now c.args.side.now c.args.block c.requires.side c.requires.block

pub returns-then-is_some : goal.returns-then-is_some
returns-then-is_some c =
    let (code, exact) = some_exact c.args.codes.now c.args.side.now c.args.block c.place-place.result c.requires.side c.place-place.ensures (sym c.is_some.ensures ∙ c.if-is_some.true) in
    sym (presses_exact (choices c.args.codes.now) c.args.side.now.literals c.args.window.from c.args.window.to c.args.block code exact)

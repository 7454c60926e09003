use Rattle.std.proofs.Common.{sym, ◌∙◌, inl, inr, arith}
use Rattle.std.proofs.lemmas.Bool.{true≢false}
use Rattle.plan_rule.specs.Yards.{choices}
use Rattle.plan_rule.proofs.CountLaws.{block_exists, is_code}
use Rattle.log_checker.specs.Leasts.{IsClear}
use Rattle.log_checker.proofs.FreeLaws.{clear_code, not_clear}
use Rattle.log_checker.proofs.LeastLaws.{least_keep, least_take}
use Rattle.log_checker.proofs.WalkLaws.{in_no_span, stretch_cost}
use Rattle.log_checker.proofs.free.with_stretch.Goals as goal

pub to_clear-found-requires-clause-block : goal.to_clear-found-requires-clause-block
to_clear-found-requires-clause-block c = block_exists _ _ c.requires.block

pub returns-then-not-is_better-clause-value : goal.returns-then-not-is_better-clause-value
returns-then-not-is_better-clause-value c =
    let from = c.requires.from in let some = c.requires.some in
    least_keep (IsClear c.args.codes.now c.args.exacts.now c.args.block) ((choices c.args.codes.now).cost c.args.block) c.args.limit c.args.from
    c.args.stretch.hi c.cost_at-cost.result c.args.best (omega arith) c.requires.best
    (λ x low high. sym (stretch_cost c.args.codes.now c.args.block c.cost_at-cost.result x c.args.stretch (block_exists _ _ c.requires.block)
    c.requires.stretch (omega arith) high c.cost_at-cost.ensures))
    (λ x low high clear better. true≢false (sym better ∙ sym c.is_better.ensures ∙ c.if-not-is_better.true))

pub returns-then-found-stretch-clause-value : goal.returns-then-found-stretch-clause-value
returns-then-found-stretch-clause-value c =
    let from = c.requires.from in let some = c.requires.some in
    let forward = c.to_clear-found.ensures.forward in
    let within = c.requires.stretch.within in
    let below = c.if-found-stretch.true in
    least_take (IsClear c.args.codes.now c.args.exacts.now c.args.block) ((choices c.args.codes.now).cost c.args.block) c.args.limit c.args.from
    c.args.stretch.hi c.cost_at-cost.result c.args.best c.requires.best
    (λ x low high. sym (stretch_cost c.args.codes.now c.args.block c.cost_at-cost.result x c.args.stretch (block_exists _ _ c.requires.block)
    c.requires.stretch (omega arith) high c.cost_at-cost.ensures))
    c.to_clear-found.result.code forward below
    (clear_code c.args.codes.now c.args.exacts.now c.args.block c.to_clear-found.result.code
    (is_code c.args.codes.now c.args.block c.to_clear-found.result.code c.requires.block (omega arith)) (c.to_clear-found.ensures.clear below))
    (sym c.is_better.ensures ∙ c.if-not-is_better.false)

pub returns-else-found-stretch-clause-value : goal.returns-else-found-stretch-clause-value
returns-else-found-stretch-clause-value c =
    let from = c.requires.from in let some = c.requires.some in
    let past = c.if-found-stretch.false in
    least_keep (IsClear c.args.codes.now c.args.exacts.now c.args.block) ((choices c.args.codes.now).cost c.args.block) c.args.limit c.args.from
    c.args.stretch.hi c.cost_at-cost.result c.args.best (omega arith) c.requires.best
    (λ x low high. sym (stretch_cost c.args.codes.now c.args.block c.cost_at-cost.result x c.args.stretch (block_exists _ _ c.requires.block)
    c.requires.stretch (omega arith) high c.cost_at-cost.ensures))
    (λ x low high clear better. elim (c.to_clear-found.ensures.skipped x low (omega arith)) [
      | inl inside ↦ in_no_span x inside
      | inr hindered ↦ not_clear c.args.codes.now c.args.exacts.now c.args.block x hindered clear
    ])

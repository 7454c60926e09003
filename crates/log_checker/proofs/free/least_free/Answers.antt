use Rattle.std.proofs.Common.{◌≤◌, ap, ◌∙◌, sym, arith}
use Rattle.std.proofs.lemmas.Option.{same_Some}
use Rattle.code_table.specs.declared.placement.Placement.{Placement}
use Rattle.code_table.specs.Stretches.{nth_place}
use Rattle.plan_rule.specs.Yards.{choices}
use Rattle.plan_rule.proofs.CountLaws.{block_exists, cost_is, count-length, is_code}
use Rattle.log_checker.specs.Leasts.{IsClear}
use Rattle.log_checker.proofs.LeastLaws.{least_done}
use Rattle.log_checker.proofs.PassedLaws.{none_below}
use Rattle.log_checker.proofs.OnwardLaws.{onward_cost}
use Rattle.log_checker.proofs.free.least_free.Goals as goal

pub returns-then-not-is_better-clause-value : goal.returns-then-not-is_better-clause-value
returns-then-not-is_better-clause-value c =
    let n = count-length c.args.codes.now c.args.block (block_exists c.args.codes.now c.args.block c.requires.block) in
    least_done (IsClear c.args.codes.now c.args.exacts.now c.args.block) ((choices c.args.codes.now).cost c.args.block) c.args.limit c.loop-code.code
    c.max-floor.result c.loop-code.best c.loop-code.invariant.least
    (λ k le clear.
    let within = clear.0 in
    let least = c.in_ok-least.ensures.least k (omega arith) in
    let cost = cost_is c.args.codes.now c.args.block k in
    let from : c.least_from.result ≤ (choices c.args.codes.now).cost c.args.block k =
    onward_cost c.args.codes.now c.args.block c.loop-code.code k c.stretch-stretch.result.place.start c.least_from.result c.least_from.ensures.limits
    c.codes_ascend.ensures.order c.least_from.ensures.value
    (is_code c.args.codes.now c.args.block c.loop-code.code c.requires.block (omega arith))
    (λ p at. ap (λ (p : Placement). p.start) (same_Some p (nth_place c.stretch-stretch.result c.loop-code.code)
    (sym at ∙ c.stretch-stretch.ensures.stretch.each c.loop-code.code c.stretch-stretch.ensures.from c.stretch-stretch.ensures.to)))
    le (c.requires.block, clear.0) in
    omega arith)
    (sym c.is_better.ensures ∙ c.if-not-is_better.true)

pub loop-code-init : goal.loop-code-init
loop-code-init c = record {
  least = none_below c.args.codes.now c.args.exacts.now c.args.block c.count-code.result c.args.limit c.count-code.ensures.hindered;
  told = c.count-code.ensures.told;
}

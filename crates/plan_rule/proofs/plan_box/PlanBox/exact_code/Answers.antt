use Rattle.std.proofs.Common.{◌≢◌, sym, ap, ◌∙◌}
use Rattle.std.proofs.lemmas.Option.{slice_get-get_or}
use Rattle.std.proofs.lemmas.List.Elements.{All-from_all_within, AllWithin-upto}
use Rattle.plan_rule.specs.Boxes.{exact_code}
use Rattle.plan_rule.proofs.ExactLaws.{exact_first, nothing_exact}
use Rattle.plan_rule.proofs.plan_box.PlanBox.exact_code.Goals as goal

pub returns-then-l-block : goal.returns-then-l-block
returns-then-l-block c =
    c.only_code.ensures
    ∙ sym (exact_first c.literals-l-items.result.now c.loop-l.l-index c.args.block _ c.loop-l.invariant
    (slice_get-get_or c.literals-l-items.result.now c.loop-l.l-index (record { block = 0; lo = 0; hi = 0 }) c.loop-l-test.true) c.if-l-block.true)
    ∙ ap (λ box. exact_code box c.args.block) c.literals-l-items.ensures.value

pub returns : goal.returns
returns c =
    sym (nothing_exact c.literals-l-items.result.now c.args.block
    (All-from_all_within (λ m. m.block ≢ c.args.block) c.literals-l-items.result.now
    (AllWithin-upto (λ m. m.block ≢ c.args.block) c.literals-l-items.result.now 0 c.loop-l.l-index _ c.loop-l-test.false c.loop-l.invariant)))
    ∙ ap (λ box. exact_code box c.args.block) c.literals-l-items.ensures.value

use Rattle.std.proofs.Common.{◌≡◌, refl, sym, ap, ◌∙◌, subst, arith, length, Some}
use Rattle.std.proofs.lemmas.Bool.{true≢false}
use Rattle.std.proofs.lemmas.Option.{slice_get-get_or}
use Rattle.plan_rule.specs.Boxes.{exact}
use Rattle.plan_rule.specs.Plans.{code_of}
use Rattle.plan_rule.proofs.BehindLaws.{Agrees, agrees_more, carried, gap_decides, part_decides, above_decides, end_decides}
use Rattle.plan_rule.proofs.plan_box.PlanBox.behind.Goals as goal

pub returns-then-from-i : goal.returns-then-from-i
returns-then-from-i c =
    carried _ _ _ _ _ c.literals-l-items.ensures.value c.codes-codes.ensures
    (gap_decides c.literals-l-items.result.now c.codes-codes.result.now c.loop-i.i _ c.literals-l-items.ensures.ordered.ascending c.loop-i.invariant
    (slice_get-get_or _ _ (record { block = 0; lo = 0; hi = 0 }) c.loop-i-test.true) (λ e. c.if-from-i.true (c.from.ensures ∙ e)))
    c.requires

pub returns-then-codes-i : goal.returns-then-codes-i
returns-then-codes-i c =
    carried _ _ _ _ _ c.literals-l-items.ensures.value c.codes-codes.ensures
    (above_decides c.literals-l-items.result.now c.codes-codes.result.now c.loop-i.i _ c.literals-l-items.ensures.ordered.ascending c.loop-i.invariant
    (slice_get-get_or _ _ (record { block = 0; lo = 0; hi = 0 }) c.loop-i-test.true) (sym c.from.ensures ∙ c.if-from-i.false) c.if-codes-i.true)
    c.requires

pub returns-then-not-is_exact : goal.returns-then-not-is_exact
returns-then-not-is_exact c =
    carried _ _ _ _ _ c.literals-l-items.ensures.value c.codes-codes.ensures
    (part_decides c.literals-l-items.result.now c.codes-codes.result.now c.loop-i.i _ c.literals-l-items.ensures.ordered.ascending c.loop-i.invariant
    (slice_get-get_or _ _ (record { block = 0; lo = 0; hi = 0 }) c.loop-i-test.true) (sym c.from.ensures ∙ c.if-from-i.false)
    (λ e. absurd (true≢false (sym (c.is_exact.ensures.1 e) ∙ c.if-not-is_exact.true))) c.if-codes-i.false)
    c.requires

pub loop-i-preserved : goal.loop-i-preserved
loop-i-preserved c =
    agrees_more c.literals-l-items.result.now c.codes-codes.result.now c.loop-i.i c.loop-i.invariant
    (slice_get-get_or c.literals-l-items.result.now c.loop-i.i (record { block = 0; lo = 0; hi = 0 }) c.loop-i-test.true
    ∙ ap Some (c.is_exact.ensures.0 c.if-not-is_exact.false ∙ ap (λ b. exact b (code_of c.codes-codes.result.now c.loop-i.i)) (sym c.from.ensures ∙ c.if-from-i.false)))

pub returns : goal.returns
returns c =
    let done : c.loop-i.i ≡ length c.literals-l-items.result.now = omega arith in
    carried _ _ _ _ _ c.literals-l-items.ensures.value c.codes-codes.ensures
    (end_decides c.literals-l-items.result.now c.codes-codes.result.now _ _ c.literals-l-items.ensures.ordered.ascending
    (subst (Agrees c.literals-l-items.result.now c.codes-codes.result.now) done c.loop-i.invariant)
    (ap length (c.literals.ensures.value ∙ sym c.literals-l-items.ensures.value)) refl)
    c.requires

use Rattle.std.proofs.Common.{◌≡◌, ◌+◌, ℕ, List, length, Ok, sym, ap, subst, ◌∙◌}
use Rattle.std.proofs.lemmas.Result.{err_from_is_err_and}
use Rattle.plan_rule.specs.Plans.{IsPlan, total}
use Rattle.plan_rule.specs.Yards.{choices}
use Rattle.plan_rule.proofs.CountLaws.{blocks-length}
use Rattle.plan_text.specs.Reading.{◌>>=◌, lines}
use Rattle.plan_text.proofs.TurnLaws.{fails_so, planned_fails, planned_turn}
use Rattle.plan_text.proofs.WholeLaws.{rows_plan}
use Rattle.plan_text.proofs.reading.planned.Goals as goal

pub returns-in_err-list : goal.returns-in_err-list
returns-in_err-list c =
    let p = err_from_is_err_and c.from_residual.result c.from_residual.ensures.1 in
    rw (p.1, p.2) (planned_fails c.args.codes.now (lines c.args.bytes.now) c.in_err-list.field-0.0 c.in_err-list.ensures)

pub new-requires : goal.new-requires
new-requires c =
    let is = rows_plan c.args.codes.now 2 (lines c.args.bytes.now) (c.in_ok-list.list.items, lines c.in_ok-list.rest.now) c.in_ok-list.ensures in
    record { plan = subst (IsPlan (choices c.args.codes.now)) (sym c.as_slice.ensures.value) is }

pub total-requires : goal.total-requires
total-requires c =
    let is = rows_plan c.args.codes.now 2 (lines c.args.bytes.now) (c.in_ok-list.list.items, lines c.in_ok-list.rest.now) c.in_ok-list.ensures in
    subst (IsPlan (choices c.args.codes.now)) (sym (c.in_ok-plan.ensures ∙ c.as_slice.ensures.value)) is

pub returns-in_err-close : goal.returns-in_err-close
returns-in_err-close c =
    let p = err_from_is_err_and c.from_residual-in_err-close.result c.from_residual-in_err-close.ensures.1 in
    let same = c.in_ok-plan.ensures ∙ c.as_slice.ensures.value in
    let number : c.from.result + 2 ≡ length c.args.codes.now.blocks + 2 = ap (λ n. n + 2) (c.from.ensures ∙ c.block_count.ensures.value ∙ blocks-length c.args.codes.now) in
    let sum = c.total.ensures ∙ ap (total (choices c.args.codes.now)) same in
    let turn = planned_turn c.args.codes.now (lines c.args.bytes.now) (c.in_ok-list.list.items, lines c.in_ok-list.rest.now) (c.from.result + 2) c.total.result c.in_ok-list.ensures number sum in
    rw (p.1, p.2) (fails_so c.in_err-close.field-0.0 _ (turn ∙ ap (λ r. r >>= λ last. Ok c.in_ok-list.list.items) (sym c.in_err-close.ensures)))

pub returns : goal.returns
returns c =
    let same = c.in_ok-plan.ensures ∙ c.as_slice.ensures.value in
    let number : c.from.result + 2 ≡ length c.args.codes.now.blocks + 2 = ap (λ n. n + 2) (c.from.ensures ∙ c.block_count.ensures.value ∙ blocks-length c.args.codes.now) in
    let sum = c.total.ensures ∙ ap (total (choices c.args.codes.now)) same in
    let turn = planned_turn c.args.codes.now (lines c.args.bytes.now) (c.in_ok-list.list.items, lines c.in_ok-list.rest.now) (c.from.result + 2) c.total.result c.in_ok-list.ensures number sum in
    turn ∙ ap (λ r. r >>= λ last. Ok c.in_ok-list.list.items) (sym c.in_ok-close.ensures) ∙ ap (λ (plan : List ℕ). Ok plan) (sym same)

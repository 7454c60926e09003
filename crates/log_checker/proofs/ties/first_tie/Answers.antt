use Rattle.std.proofs.Common.{◌≡◌, ◌+◌, ◌<◌, get_or, sym, ap, subst, ◌∙◌, arith}
use Rattle.std.proofs.lemmas.Bool.{true≢false}
use Rattle.plan_rule.specs.Plans.{code_of}
use Rattle.plan_rule.specs.Yards.{choices}
use Rattle.plan_rule.proofs.CountLaws.{block_exists, count-length}
use Rattle.log_checker.specs.Ties.{IsFirstTie}
use Rattle.log_checker.proofs.TieLaws.{tie_each, tie_none, tie_own, tie_next}
use Rattle.log_checker.proofs.ties.first_tie.Goals as goal

pub returns-then-behind : goal.returns-then-behind
returns-then-behind c =
    tie_each (choices c.args.codes.now) c.args.side.now c.args.plan.now c.args.block c.first_apart-apart.result c.requires.plan c.requires.side c.requires.block
    c.first_apart-apart.ensures c.if-apart-block.true (c.is_behind_from-behind.ensures.0 c.if-behind.true)

pub returns-else-behind : goal.returns-else-behind
returns-else-behind c =
    tie_none (choices c.args.codes.now) c.args.side.now c.args.plan.now c.args.block c.first_apart-apart.result c.count-count.result
    c.requires.plan c.requires.side c.requires.block c.first_apart-apart.ensures c.if-apart-block.true
    (λ h. true≢false (sym (c.is_behind_from-behind.ensures.1 h) ∙ c.if-behind.false))
    (c.count-count.ensures.value ∙ sym (count-length c.args.codes.now c.args.block (block_exists c.args.codes.now c.args.block c.requires.block)))

pub overflow_add-result : goal.overflow_add-result
overflow_add-result c =
    let same : get_or c.codes.result.now c.from.result 0 ≡ code_of c.args.plan.now c.args.block =
    ap (λ list. get_or list c.from.result 0) c.codes.ensures ∙ ap (code_of c.args.plan.now) c.from.ensures in
    let below = c.requires.plan.in_range c.args.block c.requires.block in
    let count = count-length c.args.codes.now c.args.block (block_exists c.args.codes.now c.args.block c.requires.block) in
    let limit = c.count-count.ensures.few in
    let value = c.count-count.ensures.value in
    omega arith

pub returns-then-behind-2 : goal.returns-then-behind-2
returns-then-behind-2 c =
    let same : get_or c.codes.result.now c.from.result 0 ≡ code_of c.args.plan.now c.args.block =
    ap (λ list. get_or list c.from.result 0) c.codes.ensures ∙ ap (code_of c.args.plan.now) c.from.ensures in
    let other = c.first_apart-apart.ensures.other in
    let after : c.args.block < c.first_apart-apart.result = omega arith in
    subst (IsFirstTie (choices c.args.codes.now) c.args.side.now c.args.plan.now c.args.block) (sym same)
    (tie_own (choices c.args.codes.now) c.args.side.now c.args.plan.now c.args.block c.first_apart-apart.result c.requires.plan c.requires.side c.requires.free
    c.requires.block c.first_apart-apart.ensures after (c.is_behind_from-behind.ensures.0 c.if-behind-2.true))

pub returns-else-behind-2 : goal.returns-else-behind-2
returns-else-behind-2 c =
    let same : get_or c.codes.result.now c.from.result 0 ≡ code_of c.args.plan.now c.args.block =
    ap (λ list. get_or list c.from.result 0) c.codes.ensures ∙ ap (code_of c.args.plan.now) c.from.ensures in
    let other = c.first_apart-apart.ensures.other in
    let after : c.args.block < c.first_apart-apart.result = omega arith in
    subst (λ code. IsFirstTie (choices c.args.codes.now) c.args.side.now c.args.plan.now c.args.block (code + 1)) (sym same)
    (tie_next (choices c.args.codes.now) c.args.side.now c.args.plan.now c.args.block c.first_apart-apart.result c.requires.plan c.requires.side c.requires.free
    c.requires.block c.first_apart-apart.ensures after (λ h. true≢false (sym (c.is_behind_from-behind.ensures.1 h) ∙ c.if-behind-2.false)))

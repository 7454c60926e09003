use Rattle.std.proofs.Common.{arith, ◌∙◌, sym, ap, ◌++◌, ◌∷◌, []}
use Rattle.plan_rule.proofs.CountLaws.{block_exists, count-length}
use Rattle.log_merge.proofs.Boxes.{pushed_none, pushed_one}
use Rattle.log_merge.proofs.merging.push_exact.Goals as goal

pub count-requires : goal.count-requires
count-requires c = block_exists c.args.codes.now c.args.block c.requires.0

pub returns-then-count-eq1 : goal.returns-then-count-eq1
returns-then-count-eq1 c =
    pushed_none _ _ _ (count-length c.args.codes.now c.args.block (block_exists c.args.codes.now c.args.block c.requires.0) ∙ sym c.count.ensures.value ∙ c.if-count-eq1.true)

pub exact-requires : goal.exact-requires
exact-requires c =
    let n = count-length c.args.codes.now c.args.block (block_exists c.args.codes.now c.args.block c.requires.0) in
    omega (arith, c.requires.1, c.count.ensures.value, c.count.ensures.few)

pub returns : goal.returns
returns c =
    let n = count-length c.args.codes.now c.args.block (block_exists c.args.codes.now c.args.block c.requires.0) in
    pushed_one _ _ _ _ (λ e. c.if-count-eq1.false (c.count.ensures.value ∙ sym n ∙ e)) (c.in_ok-push.ensures.items ∙ ap (λ l. c.args.list.now.items ++ l ∷ []) c.exact.ensures)

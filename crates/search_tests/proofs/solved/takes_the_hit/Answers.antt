use Rattle.std.proofs.Common.{◌∷◌, ◌++◌, [], ap, ◌∙◌, sym, subst, arith}
use Rattle.refutation_log.specs.declared.record.Record.TheVariants.{Fit}
use Rattle.plan_rule.specs.Yards.{choices}
use Rattle.branch_core.specs.Solved.{IsSolvable}
use Rattle.branch_core.proofs.AnswerLaws.{root_solvable}
use Rattle.branch_core.proofs.StoredLaws.{stored_one}
use Rattle.search_tests.proofs.solved.takes_the_hit.Goals as goal

pub solve-requires-clause-region : goal.solve-requires-clause-region
solve-requires-clause-region c = subst (IsSolvable (choices c.args.codes.now)) (sym c.root.ensures.value) (root_solvable (choices c.args.codes.now))

pub solve-requires-clause-stored : goal.solve-requires-clause-stored
solve-requires-clause-stored c =
    let some = c.if-block_count-eq0.false in
    let n = c.block_count.ensures.value in
    let one = c.if-count_of-eq0.false in
    let m = c.count_of.ensures.value in
    stored_one (choices c.args.codes.now) c.push.new.self c.add.new.self.nogoods c.in_ok-side.side c.in_ok-part.part c.exact-literal.result c.exact-literal.ensures c.in_ok-side.ensures c.in_ok-part.ensures
    (c.in_ok-push.ensures.ok ∙ ap (λ log. log ++ Fit c.in_ok-side.side ∷ []) c.new-log.ensures)
    (c.in_ok-add.ensures.nogoods ∙ ap (λ list. list ++ record { part = c.in_ok-part.part; tag = 0 } ∷ []) c.in_ok-store.ensures.nogoods)
    (omega arith) (omega arith)

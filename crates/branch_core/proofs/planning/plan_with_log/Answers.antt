use Rattle.std.proofs.Common.{refl, sym, subst}
use Rattle.plan_rule.specs.Yards.{choices}
use Rattle.branch_core.specs.Solved.{IsSolvable}
use Rattle.branch_core.proofs.AnswerLaws.{accepted_of, proper_text, root_solvable, root_solved}
use Rattle.branch_core.proofs.planning.plan_with_log.Goals as goal

pub solve-requires-clause-region : goal.solve-requires-clause-region
solve-requires-clause-region c = subst (IsSolvable (choices c.args.codes.now)) (sym c.root.ensures.value) (root_solvable (choices c.args.codes.now))

pub returns-clause-best : goal.returns-clause-best
returns-clause-best c =
    (root_solved (choices c.args.codes.now) c.root.result _ _ c.in_ok-report.report c.in_ok-report.ensures.solved c.root.ensures.value c.choices_are_known.ensures.small
    c.in_ok-store.ensures.nogoods c.new-log.ensures refl).0

pub returns-clause-accepted : goal.returns-clause-accepted
returns-clause-accepted c =
    let (best, steps) = root_solved (choices c.args.codes.now) c.root.result _ _ c.in_ok-report.report c.in_ok-report.ensures.solved c.root.ensures.value c.choices_are_known.ensures.small
    c.in_ok-store.ensures.nogoods c.new-log.ensures refl in
    accepted_of (choices c.args.codes.now) c.in_ok-report.report.best _ c.close_off.new.log best steps c.in_ok-close_off.ensures

pub returns-clause-text : goal.returns-clause-text
returns-clause-text c =
    let (best, steps) = root_solved (choices c.args.codes.now) c.root.result _ _ c.in_ok-report.report c.in_ok-report.ensures.solved c.root.ensures.value c.choices_are_known.ensures.small
    c.in_ok-store.ensures.nogoods c.new-log.ensures refl in
    let accepted = accepted_of (choices c.args.codes.now) c.in_ok-report.report.best _ c.close_off.new.log best steps c.in_ok-close_off.ensures in
    proper_text (choices c.args.codes.now) c.close_off.new.log (c.records_are_proper.ensures c.in_ok-report.report.best (λ i low less. accepted.steps i less))

use Rattle.std.proofs.Common.{None, refl, subst}
use Rattle.plan_rule.specs.Reports.{IsBar}
use Rattle.plan_rule.specs.Yards.{choices}
use Rattle.branch_core.proofs.EmptyLaws.{empty_ends, empty_solved, ok_of, on_err}
use Rattle.branch_core.proofs.ProperLaws.{proper_ends}
use Rattle.branch_core.proofs.solving.solve_empty.Goals as goal

pub returns-in_err-shown-clause-left : goal.returns-in_err-shown-clause-left
returns-in_err-shown-clause-left g c = on_err c.from_residual.result _ (
  None,
  empty_ends (choices c.args.codes.now) c.args.job _ _ _ _ c.args.store.now c.take_empty-found.result c.requires.ready c.see-seen.ensures.falls c.take_empty-found.ensures.written c.take_empty-found.ensures.err,
)

pub returns-in_err-shown-clause-proper : goal.returns-in_err-shown-clause-proper
returns-in_err-shown-clause-proper g c =
    proper_ends (choices c.args.codes.now) _ _ c.see-seen.result _ c.records-first.result.now
    (empty_ends (choices c.args.codes.now) c.args.job _ _ _ _ c.args.store.now c.take_empty-found.result c.requires.ready c.see-seen.ensures.falls c.take_empty-found.ensures.written c.take_empty-found.ensures.err)
    tt (subst (λ yard. IsBar (choices yard) c.see-seen.result) c.requires.served c.see-seen.ensures.is_bar) c.see-seen.ensures.seen c.records-first.ensures.value refl c.records_are_proper.ensures

pub returns-clause-proper : goal.returns-clause-proper
returns-clause-proper g c =
    proper_ends (choices c.args.codes.now) _ _ c.see-seen.result _ c.records-first.result.now
    (empty_ends (choices c.args.codes.now) c.args.job _ _ _ _ c.args.store.now c.take_empty-found.result c.requires.ready c.see-seen.ensures.falls c.take_empty-found.ensures.written c.take_empty-found.ensures.err)
    tt (subst (λ yard. IsBar (choices yard) c.see-seen.result) c.requires.served c.see-seen.ensures.is_bar) c.see-seen.ensures.seen c.records-first.ensures.value refl c.records_are_proper.ensures

pub returns-clause-solved : goal.returns-clause-solved
returns-clause-solved g c =
    empty_solved (choices c.args.codes.now) c.args.job _ _ c.see-seen.result _ _ c.args.store.now c.in_ok-shown.shown c.requires.ready c.see-seen.ensures.falls c.see-seen.ensures.seen
    (subst (λ yard. IsBar (choices yard) c.see-seen.result) c.requires.served c.see-seen.ensures.is_bar)
    (ok_of c.take_empty-found.result c.in_ok-shown.shown _ c.in_ok-shown.was c.take_empty-found.ensures.written)

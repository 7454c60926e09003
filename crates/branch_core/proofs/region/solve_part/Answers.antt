use Rattle.std.proofs.Common.{refl, subst, arith}
use Rattle.plan_rule.specs.Reports.{IsBar}
use Rattle.plan_rule.specs.Yards.{choices}
use Rattle.branch_core.proofs.EmptyLaws.{ok_of, on_err}
use Rattle.branch_core.proofs.ProperLaws.{proper_ends}
use Rattle.branch_core.proofs.SolveLaws.{ended_falls, solved}
use Rattle.branch_core.proofs.region.solve_part.Goals as goal

pub returns-in_err-shown-clause-left : goal.returns-in_err-shown-clause-left
returns-in_err-shown-clause-left g c =
    let fits = c.requires.ready.fits in
    let falls = c.search_part-found.ensures.ended.ends.later.falls in
    let ended = ended_falls (choices c.args.codes.now) c.args.job _ _ _ c.search_part-found.new.best _ _ (omega arith) c.see-seen.ensures.falls c.search_part-found.ensures.ended in
    on_err c.from_residual.result _ (c.search_part-found.new.best, ended.ends)

pub returns-in_err-shown-clause-proper : goal.returns-in_err-shown-clause-proper
returns-in_err-shown-clause-proper g c =
    let fits = c.requires.ready.fits in
    let falls = c.search_part-found.ensures.ended.ends.later.falls in
    let ended = ended_falls (choices c.args.codes.now) c.args.job _ _ _ c.search_part-found.new.best _ _ (omega arith) c.see-seen.ensures.falls c.search_part-found.ensures.ended in
    proper_ends (choices c.args.codes.now) _ _ c.see-seen.result _ c.records-first.result.now ended.ends ended.held
    (subst (λ yard. IsBar (choices yard) c.see-seen.result) c.search_part-found.ensures.served c.see-seen.ensures.is_bar) c.see-seen.ensures.seen c.records-first.ensures.value refl
    c.records_are_proper.ensures

pub returns-clause-proper : goal.returns-clause-proper
returns-clause-proper g c =
    let fits = c.requires.ready.fits in
    let falls = c.search_part-found.ensures.ended.ends.later.falls in
    let ended = ended_falls (choices c.args.codes.now) c.args.job _ _ _ c.search_part-found.new.best _ _ (omega arith) c.see-seen.ensures.falls c.search_part-found.ensures.ended in
    proper_ends (choices c.args.codes.now) _ _ c.see-seen.result _ c.records-first.result.now ended.ends ended.held
    (subst (λ yard. IsBar (choices yard) c.see-seen.result) c.search_part-found.ensures.served c.see-seen.ensures.is_bar) c.see-seen.ensures.seen c.records-first.ensures.value refl
    c.records_are_proper.ensures

pub returns-clause-solved : goal.returns-clause-solved
returns-clause-solved g c =
    let fits = c.requires.ready.fits in
    let falls = c.search_part-found.ensures.ended.ends.later.falls in
    solved (choices c.args.codes.now) c.args.job c.args.front.now c.args.lo c.args.hi _ _ _ c.see-seen.result c.search_part-found.new.best _ _ c.in_ok-shown.shown.tie c.in_ok-shown.shown.number
    (omega arith) c.see-seen.ensures.falls c.see-seen.ensures.seen
    (subst (λ yard. IsBar (choices yard) c.see-seen.result) c.search_part-found.ensures.served c.see-seen.ensures.is_bar)
    c.requires.part c.search_part-found.ensures.ended (ok_of c.search_part-found.result c.in_ok-shown.shown _ c.in_ok-shown.was c.search_part-found.ensures.shown)

pub returns-in_err-shown-clause-bar : goal.returns-in_err-shown-clause-bar
returns-in_err-shown-clause-bar g c =
    subst (λ bar. IsBar (choices c.args.codes.now) bar) c.see-seen.ensures.seen
    (subst (λ yard. IsBar (choices yard) c.see-seen.result) c.search_part-found.ensures.served c.see-seen.ensures.is_bar)

pub returns-clause-bar : goal.returns-clause-bar
returns-clause-bar g c =
    subst (λ bar. IsBar (choices c.args.codes.now) bar) c.see-seen.ensures.seen
    (subst (λ yard. IsBar (choices yard) c.see-seen.result) c.search_part-found.ensures.served c.see-seen.ensures.is_bar)

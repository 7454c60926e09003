use Rattle.std.proofs.Common.{subst, arith}
use Rattle.common_lists.proofs.ListLaws.{match_some}
use Rattle.plan_rule.specs.Yards.{choices}
use Rattle.branch_core.specs.Fronts.{IsFrontOf}
use Rattle.branch_core.proofs.HitLaws.{not_beaten}
use Rattle.branch_core.proofs.RegionLaws.{divided, ended_from, ended_onto, front_shown, part_next, single_from}
use Rattle.branch_core.proofs.SolveLaws.{region_node}
use Rattle.branch_kernel.proofs.NodeLaws.{match_none, ready_later, runs_later, runs_self, runs_onto}
use Rattle.branch_core.proofs.region.search_unmet.Goals as goal

pub returns-in_err-misfit-clause-ended : goal.returns-in_err-misfit-clause-ended
returns-in_err-misfit-clause-ended g c = ended_from (choices c.args.codes.now) c.args.job _ _ (runs_self (choices c.args.codes.now) _ _ c.requires.ready)

pub returns-in_err-shown-clause-ended : goal.returns-in_err-shown-clause-ended
returns-in_err-shown-clause-ended g c = ended_from (choices c.args.codes.now) c.args.job _ _ c.bounded.ensures.runs

pub returns-in-Some-clause-ended : goal.returns-in-Some-clause-ended
returns-in-Some-clause-ended g c = ended_from (choices c.args.codes.now) c.args.job _ _ c.bounded.ensures.runs

pub returns-in-Some-clause-shown : goal.returns-in-Some-clause-shown
returns-in-Some-clause-shown g c =
    let front = subst (IsFrontOf (choices c.args.codes.now) c.args.front.now) c.in-Clear.is c.in_ok-misfit.ensures in
    let (one, last, shown) = match_some _ _ _ c.in-Some.shown c.in_ok-shown.ensures.shown c.in-Some.is in
    front_shown (choices c.args.codes.now) c.args.job c.args.front.now c.args.lo c.args.hi c.in-Clear.side _ _ _ _ c.requires.part front.0 last shown

pub take_last-requires-clause-some : goal.take_last-requires-clause-some
take_last-requires-clause-some g c = c.requires.some c.if-hi-eq0.true

pub returns-then-hi-eq0-clause-ended : goal.returns-then-hi-eq0-clause-ended
returns-then-hi-eq0-clause-ended g c = ended_onto (choices c.args.codes.now) c.args.job _ _ _ c.requires.ready c.bounded.ensures.runs c.take_last.ensures.ended

pub returns-then-hi-eq0-clause-shown : goal.returns-then-hi-eq0-clause-shown
returns-then-hi-eq0-clause-shown g c =
    single_from (choices c.args.codes.now) c.args.job c.args.front.now c.args.lo c.args.hi _ _ _ c.take_last.result c.bounded.ensures.runs.grows c.take_last.ensures.shown

pub search_range-requires-clause-node : goal.search_range-requires-clause-node
search_range-requires-clause-node g c =
    let front = subst (IsFrontOf (choices c.args.codes.now) c.args.front.now) c.in-Clear.is c.in_ok-misfit.ensures in
    region_node (choices c.args.codes.now) c.args.job c.args.front.now c.args.lo c.args.hi c.in-Clear.side c.requires.part
    (part_next (choices c.args.codes.now) c.args.job c.args.front.now c.args.lo c.args.hi c.requires.part c.if-hi-eq0.false) front.0 front.1

pub returns-clause-ended : goal.returns-clause-ended
returns-clause-ended g c =
    let ready = ready_later (choices c.args.codes.now) _ _ _ c.requires.ready c.bounded.ensures.runs in
    let begun = runs_later (choices c.args.codes.now) _ _ _ _ _ _ _ ready c.begin.ensures.later c.begin.ensures.held c.begin.ensures.inside in
    ended_from (choices c.args.codes.now) c.args.job _ _
    (runs_onto (choices c.args.codes.now) _ _ _ _ c.requires.ready (runs_onto (choices c.args.codes.now) _ _ _ _ c.requires.ready c.bounded.ensures.runs begun) c.search_range.ensures.runs)

pub returns-clause-shown : goal.returns-clause-shown
returns-clause-shown g c =
    let front = subst (IsFrontOf (choices c.args.codes.now) c.args.front.now) c.in-Clear.is c.in_ok-misfit.ensures in
    let ready = ready_later (choices c.args.codes.now) _ _ _ c.requires.ready c.bounded.ensures.runs in
    let begun = runs_later (choices c.args.codes.now) _ _ _ _ _ _ _ ready c.begin.ensures.later c.begin.ensures.held c.begin.ensures.inside in
    let first = runs_onto (choices c.args.codes.now) _ _ _ _ c.requires.ready c.bounded.ensures.runs begun in
    divided (choices c.args.codes.now) c.args.job c.args.front.now c.args.lo c.args.hi c.in-Clear.side _ _ _ c.search_range.result c.requires.part c.if-hi-eq0.false front.0 first.grows c.search_range.ensures.shown

pub returns-clause-bound : goal.returns-clause-bound
returns-clause-bound g c = λ beaten.
    let front = subst (IsFrontOf (choices c.args.codes.now) c.args.front.now) c.in-Clear.is c.in_ok-misfit.ensures in
    let none = match_none _ _ _ c.in_ok-shown.ensures.shown c.in_default.is in
    let falls = c.bounded.ensures.runs.grows.later.falls in
    absurd (not_beaten (choices c.args.codes.now) c.args.front.now c.in-Clear.side _ _ front.0 none.1 (omega arith) beaten)

pub search_range-requires-clause-ready : goal.search_range-requires-clause-ready
search_range-requires-clause-ready g c =
    let ready = ready_later (choices c.args.codes.now) _ _ _ c.requires.ready c.bounded.ensures.runs in
    ready_later (choices c.args.codes.now) _ _ _ ready
    (runs_later (choices c.args.codes.now) _ _ _ _ _ _ _ ready c.begin.ensures.later c.begin.ensures.held c.begin.ensures.inside)

pub returns-in_err-begin-clause-ended : goal.returns-in_err-begin-clause-ended
returns-in_err-begin-clause-ended g c =
    let ready = ready_later (choices c.args.codes.now) _ _ _ c.requires.ready c.bounded.ensures.runs in
    let begun = runs_later (choices c.args.codes.now) _ _ _ _ _ _ _ ready c.begin.ensures.later c.begin.ensures.held c.begin.ensures.inside in
    ended_from (choices c.args.codes.now) c.args.job _ _ (runs_onto (choices c.args.codes.now) _ _ _ _ c.requires.ready c.bounded.ensures.runs begun)

use Rattle.common_lists.proofs.ListLaws.{match_some}
use Rattle.plan_rule.specs.Yards.{choices}
use Rattle.branch_kernel.proofs.NodeLaws.{runs_falls, runs_unwritten}
use Rattle.branch_search.proofs.FitLaws.{fitted_shown, side_among}
use Rattle.branch_search.proofs.fits.fitted.Goals as goal

pub returns-in_err-beaten-clause-runs : goal.returns-in_err-beaten-clause-runs
returns-in_err-beaten-clause-runs g c = runs_falls (choices c.args.codes.now) _ _ _ _ _ _ c.requires.ready c.see-bar.ensures.falls

pub returns-in_default-clause-runs : goal.returns-in_default-clause-runs
returns-in_default-clause-runs g c = runs_falls (choices c.args.codes.now) _ _ _ _ _ _ c.requires.ready c.see-bar.ensures.falls

pub returns-in_err-number-clause-runs : goal.returns-in_err-number-clause-runs
returns-in_err-number-clause-runs g c = runs_unwritten (choices c.args.codes.now) _ _ _ _ _ _ _ c.requires.ready c.see-bar.ensures.falls c.in_err-number.ensures

pub keep_box-requires : goal.keep_box-requires
keep_box-requires g c =
    let (is, inside, beats) = match_some _ _ _ c.in-Some.beaten c.in_ok-beaten.ensures c.in-Some.is in
    side_among (choices c.args.codes.now) c.args.job _ c.in-Some.beaten.side c.requires.ready is

pub returns-clause-runs : goal.returns-clause-runs
returns-clause-runs g c =
    (fitted_shown (choices c.args.codes.now) c.args.job _ _ c.see-bar.result _ _ _ _ _ c.in-Some.beaten.tie _ c.args.part.now c.in-Some.beaten.side c.requires.ready c.see-bar.ensures.falls c.see-bar.ensures.seen
    (match_some _ _ _ c.in-Some.beaten c.in_ok-beaten.ensures c.in-Some.is) c.in_ok-number.ensures c.keep_box.ensures.kept).0

pub returns-clause-shown : goal.returns-clause-shown
returns-clause-shown g c =
    let (runs, last, shown) = fitted_shown (choices c.args.codes.now) c.args.job _ _ c.see-bar.result _ _ _ _ _ c.in-Some.beaten.tie _ c.args.part.now c.in-Some.beaten.side c.requires.ready c.see-bar.ensures.falls c.see-bar.ensures.seen
    (match_some _ _ _ c.in-Some.beaten c.in_ok-beaten.ensures c.in-Some.is) c.in_ok-number.ensures c.keep_box.ensures.kept in
    (last, shown)

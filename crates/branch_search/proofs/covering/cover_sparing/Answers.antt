use Rattle.common_lists.proofs.ListLaws.{ok_weaker}
use Rattle.plan_rule.specs.Yards.{choices}
use Rattle.branch_kernel.proofs.GrowthLaws.{grows_falls}
use Rattle.branch_kernel.proofs.NodeLaws.{runs_after, runs_falls}
use Rattle.branch_kernel.specs.Marks.{has}
use Rattle.branch_search.proofs.CycleLaws.{coverage_from}
use Rattle.branch_search.proofs.ViewLaws.{can_push}
use Rattle.branch_search.proofs.covering.cover_sparing.Goals as goal

pub returns-in_err-tie-clause-runs : goal.returns-in_err-tie-clause-runs
returns-in_err-tie-clause-runs g c = runs_falls (choices c.args.codes.now) _ _ _ _ _ _ c.requires.ready c.see-bar.ensures.falls

pub returns-in-Some-clause-runs : goal.returns-in-Some-clause-runs
returns-in-Some-clause-runs g c = runs_falls (choices c.args.codes.now) _ _ _ _ _ _ c.requires.ready c.see-bar.ensures.falls

pub returns-clause-runs : goal.returns-clause-runs
returns-clause-runs g c = runs_after (choices c.args.codes.now) _ _ _ _ _ _ _ c.requires.ready c.see-bar.ensures.falls c.cover.ensures.runs

pub returns-clause-covered : goal.returns-clause-covered
returns-clause-covered g c =
    ok_weaker c.cover.result _ _
    (λ r h. coverage_from (choices c.args.codes.now) c.args.job _ _ _ c.args.side.now _ c.args.block c.args.code r
    (grows_falls (choices c.args.codes.now) _ _ _ _ _ c.requires.ready.fits c.see-bar.ensures.falls) h)
    c.cover.ensures.covered

pub beside-beside-requires : goal.beside-beside-requires
beside-beside-requires g c = can_push c.args.codes.now c.args.job c.args.side.now (has c.args.needs.now) c.args.block c.args.code c.args.view.now c.requires.node c.requires.view

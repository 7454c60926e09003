use Rattle.std.proofs.Common.{refl}
use Rattle.plan_rule.specs.Boxes.{exact}
use Rattle.plan_rule.specs.Yards.{choices}
use Rattle.branch_kernel.proofs.NodeLaws.{runs_self, runs_later}
use Rattle.branch_kernel.proofs.SettleLaws.{by_a_plan}
use Rattle.branch_kernel.proofs.SplitLaws.{exact_holds}
use Rattle.branch_kernel.proofs.WithLaws.{exact_feasible}
use Rattle.branch_kernel.proofs.covering.cover_by_plan.Goals as goal

pub plan_of-requires-clause-part : goal.plan_of-requires-clause-part
plan_of-requires-clause-part g c = c.requires.open.part_is

pub returns-in_err-plan-clause-runs : goal.returns-in_err-plan-clause-runs
returns-in_err-plan-clause-runs g c = runs_self (choices c.args.codes.now) _ _ c.requires.ready

pub take_plan-requires-clause-feasible : goal.take_plan-requires-clause-feasible
take_plan-requires-clause-feasible g c =
    let (size, all) = c.in_ok-plan.ensures in
    exact_feasible (choices c.args.codes.now) _ _ c.requires.open.part_is c.requires.open.clear all size

pub take_plan-requires-clause-region : goal.take_plan-requires-clause-region
take_plan-requires-clause-region g c =
    let (size, all) = c.in_ok-plan.ensures in
    c.requires.open.region _ (exact_feasible (choices c.args.codes.now) _ _ c.requires.open.part_is c.requires.open.clear all size)
    (exact_holds (choices c.args.codes.now) _ _ c.requires.open.part_is all)

pub returns-clause-runs : goal.returns-clause-runs
returns-clause-runs g c =
    runs_later (choices c.args.codes.now) _ _ _ _ _ _ _ c.requires.ready c.take_plan.ensures.later c.take_plan.ensures.held c.take_plan.ensures.inside

pub returns-clause-covered : goal.returns-clause-covered
returns-clause-covered g c =
    let (size, all) = c.in_ok-plan.ensures in
    by_a_plan (choices c.args.codes.now) c.args.job _ _ _ c.args.child.now _ _ _ (exact c.args.block c.args.code) _ c.requires.ready.known c.requires.node c.add_all.ensures.added refl c.requires.child
    c.take_plan.ensures.held (exact_feasible (choices c.args.codes.now) _ _ c.requires.open.part_is c.requires.open.clear all size) all c.take_plan.ensures.taken

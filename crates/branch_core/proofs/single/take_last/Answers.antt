use Rattle.std.proofs.Common.{◌-◌, length, refl, sym, subst, arith}
use Rattle.plan_rule.specs.Plans.{IsFeasible, IsNotBefore}
use Rattle.plan_rule.specs.Yards.{choices}
use Rattle.branch_kernel.specs.Marks.{has}
use Rattle.branch_core.proofs.RegionLaws.{one_plan, plan_single, ended_from, single_place}
use Rattle.branch_core.proofs.SolveLaws.{part_codes}
use Rattle.branch_kernel.proofs.NodeLaws.{runs_later, runs_self}
use Rattle.branch_core.proofs.single.take_last.Goals as goal

pub take_plan-requires-clause-feasible : goal.take_plan-requires-clause-feasible
take_plan-requires-clause-feasible g c =
    subst (IsFeasible (choices c.args.codes.now)) (sym c.in_ok-plan.ensures)
    (one_plan (choices c.args.codes.now) c.args.job _ _ _ c.args.side.now c.requires.part c.requires.whole c.requires.front c.requires.clear).0

pub returns-in_err-plan-clause-ended : goal.returns-in_err-plan-clause-ended
returns-in_err-plan-clause-ended g c = ended_from (choices c.args.codes.now) c.args.job _ _ (runs_self (choices c.args.codes.now) _ _ c.requires.ready)

pub returns-in_err-rest-clause-ended : goal.returns-in_err-rest-clause-ended
returns-in_err-rest-clause-ended g c =
    ended_from (choices c.args.codes.now) c.args.job _ _
    (runs_later (choices c.args.codes.now) _ _ _ _ _ _ _ c.requires.ready c.take_plan.ensures.later c.take_plan.ensures.held c.take_plan.ensures.inside)

pub close-requires-clause-place : goal.close-requires-clause-place
close-requires-clause-place g c =
    let some = c.requires.some in
    let (exists, below) = part_codes (choices c.args.codes.now) c.args.job c.args.front.now c.args.lo c.args.hi c.requires.part (length c.args.front.now - 1) (omega arith) in
    single_place (choices c.args.codes.now) c.args.front.now _ _ c.exact-range.result exists below c.in_ok-rest.ensures c.exact-range.ensures

pub returns-clause-ended : goal.returns-clause-ended
returns-clause-ended g c =
    let some = c.requires.some in
    (plan_single (choices c.args.codes.now) c.args.job c.args.front.now c.args.lo c.args.hi (length c.args.front.now - 1) c.args.side.now c.in_ok-rest.rest c.exact-range.result _ _ c.take_plan.new.best
    c.args.log.now c.close.new.log c.args.store.now c.close.new.store (has c.add_all.new.self) _ c.close.result c.requires.part c.requires.whole c.requires.ready refl
    (runs_later (choices c.args.codes.now) _ _ _ _ _ _ _ c.requires.ready c.take_plan.ensures.later c.take_plan.ensures.held c.take_plan.ensures.inside)
    (omega arith) c.requires.front c.requires.clear c.in_ok-rest.ensures c.add_all.ensures.added
    (subst (λ plan. IsNotBefore (choices c.args.codes.now) plan c.take_plan.new.best) c.in_ok-plan.ensures c.take_plan.ensures.taken)
    c.exact-range.ensures c.new-cites.ensures.items c.close.ensures).0

pub returns-clause-shown : goal.returns-clause-shown
returns-clause-shown g c =
    let some = c.requires.some in
    (plan_single (choices c.args.codes.now) c.args.job c.args.front.now c.args.lo c.args.hi (length c.args.front.now - 1) c.args.side.now c.in_ok-rest.rest c.exact-range.result _ _ c.take_plan.new.best
    c.args.log.now c.close.new.log c.args.store.now c.close.new.store (has c.add_all.new.self) _ c.close.result c.requires.part c.requires.whole c.requires.ready refl
    (runs_later (choices c.args.codes.now) _ _ _ _ _ _ _ c.requires.ready c.take_plan.ensures.later c.take_plan.ensures.held c.take_plan.ensures.inside)
    (omega arith) c.requires.front c.requires.clear c.in_ok-rest.ensures c.add_all.ensures.added
    (subst (λ plan. IsNotBefore (choices c.args.codes.now) plan c.take_plan.new.best) c.in_ok-plan.ensures c.take_plan.ensures.taken)
    c.exact-range.ensures c.new-cites.ensures.items c.close.ensures).1

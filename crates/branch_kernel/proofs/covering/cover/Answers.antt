use Rattle.std.proofs.Common.{◌∙◌, ap, subst}
use Rattle.plan_rule.specs.Boxes.{with_literal}
use Rattle.plan_rule.specs.Yards.{choices}
use Rattle.tardiness_bounds.specs.Numbers.{number}
use Rattle.branch_kernel.specs.States.{relied}
use Rattle.branch_kernel.specs.Rivals.{Beats}
use Rattle.branch_kernel.proofs.BesideLaws.{by_a_hindrance, told_clear}
use Rattle.branch_kernel.proofs.NodeLaws.{runs_self, runs_falls, child_of}
use Rattle.branch_kernel.proofs.SettleLaws.{by_a_base}
use Rattle.branch_kernel.proofs.covering.cover.Goals as goal

pub returns-in-Some-clause-runs : goal.returns-in-Some-clause-runs
returns-in-Some-clause-runs g c = runs_self (choices c.args.codes.now) _ _ c.requires.ready

pub returns-in-Some-clause-covered : goal.returns-in-Some-clause-covered
returns-in-Some-clause-covered g c =
    by_a_hindrance (choices c.args.codes.now) c.args.job _ _ c.args.side.now _ c.args.block c.args.code c.args.beside c.in-Some.hindrance c.requires.ready.known c.requires.node c.requires.beside
    c.in-Some.is c.mark.ensures.marked

pub returns-in_err-child-clause-runs : goal.returns-in_err-child-clause-runs
returns-in_err-child-clause-runs g c = runs_self (choices c.args.codes.now) _ _ c.requires.ready

pub base-requires : goal.base-requires
base-requires g c =
    let (apart, unmet) = told_clear (choices c.args.codes.now) c.args.side.now c.args.block c.args.code c.args.beside c.requires.node.free c.requires.beside c.in_default.is in
    let child = child_of (choices c.args.codes.now) c.args.job _ _ _ _ c.in_ok-child.child c.requires.ready.known c.requires.node apart unmet c.exact.ensures c.in_ok-child.ensures in
    child.part_is

pub beats-requires-clause-part : goal.beats-requires-clause-part
beats-requires-clause-part g c =
    let (apart, unmet) = told_clear (choices c.args.codes.now) c.args.side.now c.args.block c.args.code c.args.beside c.requires.node.free c.requires.beside c.in_default.is in
    let child = child_of (choices c.args.codes.now) c.args.job _ _ _ _ c.in_ok-child.child c.requires.ready.known c.requires.node apart unmet c.exact.ensures c.in_ok-child.ensures in
    child.part_is

pub returns-in-Some-beats-clause-runs : goal.returns-in-Some-beats-clause-runs
returns-in-Some-beats-clause-runs g c = runs_falls (choices c.args.codes.now) _ _ _ _ _ _ c.requires.ready c.see-bar.ensures.falls

pub returns-in-Some-beats-clause-covered : goal.returns-in-Some-beats-clause-covered
returns-in-Some-beats-clause-covered g c =
    by_a_base (choices c.args.codes.now) c.args.job _ _ _ _ c.in_ok-child.child _ _ _ c.exact.result _ c.requires.ready.known c.requires.node c.add_all.ensures.added c.exact.ensures c.in_ok-child.ensures c.base.ensures
    (subst (λ bar. Beats (choices c.args.codes.now) bar (relied c.in-Some-beats.tie c.args.best.now) c.in_ok-child.child (number c.base.result)) c.see-bar.ensures.seen c.in-Some-beats.ensures.some)

pub returns-clause-runs : goal.returns-clause-runs
returns-clause-runs g c = runs_falls (choices c.args.codes.now) _ _ _ _ _ _ c.requires.ready c.see-bar.ensures.falls

pub returns-clause-covered : goal.returns-clause-covered
returns-clause-covered g c =
    let (apart, unmet) = told_clear (choices c.args.codes.now) c.args.side.now c.args.block c.args.code c.args.beside c.requires.node.free c.requires.beside c.in_default.is in (
      c.in_ok-child.ensures ∙ ap (with_literal c.args.side.now) c.exact.ensures,
      child_of (choices c.args.codes.now) c.args.job _ _ _ _ c.in_ok-child.child c.requires.ready.known c.requires.node apart unmet c.exact.ensures c.in_ok-child.ensures,
    )

use Rattle.std.proofs.Common.{◌/◌, ◌^◌, refl, subst}
use Rattle.plan_rule.specs.Bounds.{IsAtMost}
use Rattle.tardiness_bounds.specs.Numbers.{number}
use Rattle.branch_kernel.proofs.WindowLaws.{window_days, unbeaten, unbeaten_none, unbeaten_some}
use Rattle.plan_rule.specs.Yards.{choices}
use Rattle.branch_kernel.proofs.NodeLaws.{runs_falls, runs_unwritten, runs_grown, fit_shown, energy_shown}
use Rattle.branch_kernel.proofs.steps.bounded.Goals as goal

pub returns-in_err-fit-clause-runs : goal.returns-in_err-fit-clause-runs
returns-in_err-fit-clause-runs g c = runs_falls (choices c.args.codes.now) _ _ _ _ _ _ c.requires.ready c.see-bar.ensures.falls

pub returns-in_err-number-clause-runs : goal.returns-in_err-number-clause-runs
returns-in_err-number-clause-runs g c = runs_unwritten (choices c.args.codes.now) _ _ _ _ _ _ _ c.requires.ready c.see-bar.ensures.falls c.in_err-number.ensures

pub returns-in-Some-clause-runs : goal.returns-in-Some-clause-runs
returns-in-Some-clause-runs g c =
    runs_grown (choices c.args.codes.now) _ _ _ _ _ _ _ _ c.requires.ready c.see-bar.ensures.falls
    (fit_shown (choices c.args.codes.now) _ _ _ _ _ _ _ _ _ _ _ c.requires.ready.fits c.see-bar.ensures.falls c.see-bar.ensures.seen c.requires.ready.stored c.requires.part
    c.in_ok-fit.ensures c.in-Some.ensures.some c.in_ok-number.ensures).0

pub returns-in-Some-clause-shown : goal.returns-in-Some-clause-shown
returns-in-Some-clause-shown g c =
    let (g, one, last, shown) = fit_shown (choices c.args.codes.now) _ _ _ _ _ _ _ _ _ _ _ c.requires.ready.fits c.see-bar.ensures.falls c.see-bar.ensures.seen c.requires.ready.stored c.requires.part
    c.in_ok-fit.ensures c.in-Some.ensures.some c.in_ok-number.ensures in
    (one, last, shown)

pub returns-in_err-number-2-clause-runs : goal.returns-in_err-number-2-clause-runs
returns-in_err-number-2-clause-runs g c = runs_unwritten (choices c.args.codes.now) _ _ _ _ _ _ _ c.requires.ready c.see-bar.ensures.falls c.in_err-number-2.ensures

pub returns-in-Some-beats-clause-runs : goal.returns-in-Some-beats-clause-runs
returns-in-Some-beats-clause-runs g c =
    runs_grown (choices c.args.codes.now) _ _ _ _ _ _ _ _ c.requires.ready c.see-bar.ensures.falls
    (energy_shown (choices c.args.codes.now) _ _ _ _ _ _ _ _ _ _ _ _ _ c.requires.ready.known c.requires.ready.fits c.see-bar.ensures.falls c.see-bar.ensures.seen
    c.requires.ready.stored c.requires.part (window_days (choices c.args.codes.now) _ _ c.in-Some-best_window.ensures).0 (window_days (choices c.args.codes.now) _ _ c.in-Some-best_window.ensures).1 c.energy.ensures c.in-Some-beats.ensures.some c.in_ok-number-2.ensures).0

pub returns-in-Some-beats-clause-shown : goal.returns-in-Some-beats-clause-shown
returns-in-Some-beats-clause-shown g c =
    let (g, one, last, shown) = energy_shown (choices c.args.codes.now) _ _ _ _ _ _ _ _ _ _ _ _ _ c.requires.ready.known c.requires.ready.fits c.see-bar.ensures.falls c.see-bar.ensures.seen
    c.requires.ready.stored c.requires.part (window_days (choices c.args.codes.now) _ _ c.in-Some-best_window.ensures).0 (window_days (choices c.args.codes.now) _ _ c.in-Some-best_window.ensures).1 c.energy.ensures c.in-Some-beats.ensures.some c.in_ok-number-2.ensures in
    (one, last, shown)

pub returns-in_default-beats-clause-runs : goal.returns-in_default-beats-clause-runs
returns-in_default-beats-clause-runs g c = runs_falls (choices c.args.codes.now) _ _ _ _ _ _ c.requires.ready c.see-bar.ensures.falls

pub returns-in_default-best_window-clause-runs : goal.returns-in_default-best_window-clause-runs
returns-in_default-best_window-clause-runs g c = runs_falls (choices c.args.codes.now) _ _ _ _ _ _ c.requires.ready c.see-bar.ensures.falls

pub returns-in_default-beats-clause-shown : goal.returns-in_default-beats-clause-shown
returns-in_default-beats-clause-shown g c = (
  refl,
  unbeaten (choices c.args.codes.now) c.args.part.now _ _ c.in_ok-fit.ensures
      (subst (λ bar. IsAtMost (number c.in_ok-fit.fit) (bar / 2 ^ 32)) c.see-bar.ensures.seen c.in_default.ensures.none)
      (λ k is low. unbeaten_some (choices c.args.codes.now) c.args.part.now k _ (c.in-Some-best_window.from, c.in-Some-best_window.to) _ is low c.in-Some-best_window.ensures c.energy.ensures
      (subst (λ bar. IsAtMost (number c.energy.result) (bar / 2 ^ 32)) c.see-bar.ensures.seen c.in_default-beats.ensures.none)),
)

pub returns-in_default-best_window-clause-shown : goal.returns-in_default-best_window-clause-shown
returns-in_default-best_window-clause-shown g c = (
  refl,
  unbeaten (choices c.args.codes.now) c.args.part.now _ _ c.in_ok-fit.ensures
      (subst (λ bar. IsAtMost (number c.in_ok-fit.fit) (bar / 2 ^ 32)) c.see-bar.ensures.seen c.in_default.ensures.none)
      (λ k is low. unbeaten_none (choices c.args.codes.now) c.args.part.now k _ is low c.in_default-best_window.ensures),
)

use Rattle.std.proofs.Common.{sym, subst, refl, rules}
use Rattle.plan_rule.specs.Yards.{choices}
use Rattle.log_checker.specs.Claims.{plan_of}
use Rattle.log_checker.specs.Forms.{HasForm}
use Rattle.log_checker.specs.Verdicts.{HasLowBound}
use Rattle.refutation_log.specs.Steps.{IsStep}
use Rattle.log_checker.proofs.StepLaws.{branch_step}
use Rattle.log_checker.proofs.steps.fault_of.Goals as goal

pub returns-in-None-clause-value : goal.returns-in-None-clause-value
returns-in-None-clause-value c =
    let form : HasForm (choices c.args.judge.now.codes.now) c.args.entry.now = c.if-not-has_form.ensures.0 refl in
    subst (λ r. IsStep (choices c.args.judge.now.codes.now) (plan_of c.args.judge.now.claim) c.args.earlier.now r) (sym c.in-Branch.is)
    (branch_step (choices c.args.judge.now.codes.now) (plan_of c.args.judge.now.claim) c.args.earlier.now _ _ _ _ _ (subst (HasForm (choices c.args.judge.now.codes.now)) c.in-Branch.is form)
    (search rules) (search rules))

pub returns-in-Some-energy_fault-clause-value : goal.returns-in-Some-energy_fault-clause-value
returns-in-Some-energy_fault-clause-value c =
    let form : HasForm (choices c.args.judge.now.codes.now) c.args.entry.now = c.if-not-has_form.ensures.0 refl in
    (refl, form, subst (λ r. HasLowBound (choices c.args.judge.now.codes.now) (plan_of c.args.judge.now.claim) r c.in-Some-energy_fault.bound) (sym c.in-Energy.is) c.in-Some-energy_fault.ensures)

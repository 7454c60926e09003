use Rattle.plan_rule.specs.Yards.{choices}
use Rattle.log_checker.specs.Claims.{plan_of}
use Rattle.log_checker.specs.Masks.{AreTold}
use Rattle.log_checker.specs.PassedCodes.{ArePassed}
use Rattle.log_checker.specs.Verdicts.{AreStepsBefore}
use Rattle.log_checker.proofs.steps.first_fault.Given as goal

-- the records so far are steps, and what is kept is so
abbrev pub invariant-loop-i : goal.invariant-loop-i
invariant-loop-i l = record {
  steps : AreStepsBefore (choices l.judge.codes.now) (plan_of l.judge.claim) l.records l.i;
  told : AreTold l.judge.codes.now l.masks;
  kept : ArePassed l.judge.codes.now l.passed;
}

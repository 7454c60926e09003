use Rattle.std.proofs.Common.{arith, ◌≡◌, refl, Some, subst, length}
use Rattle.std.specs.Prelude.{slice_get, take, MatchOption}
use Rattle.std.proofs.lemmas.Option.{slice_get_read}
use Rattle.plan_rule.specs.Yards.{choices}
use Rattle.refutation_log.specs.Steps.{IsStep}
use Rattle.log_checker.specs.Claims.{plan_of}
use Rattle.log_checker.specs.Verdicts.{IsFault}
use Rattle.log_checker.proofs.StepLaws.{forms_taken, none_of, steps_more}
use Rattle.log_checker.proofs.steps.first_fault.Goals as goal

pub fault_of-requires-clause-earlier : goal.fault_of-requires-clause-earlier
fault_of-requires-clause-earlier c = forms_taken (choices c.args.judge.now.codes.now) (plan_of c.args.judge.now.claim) c.args.records.now c.loop-i.i (omega arith) c.loop-i.invariant.steps

pub returns-in-Some : goal.returns-in-Some
returns-in-Some c =
    let at : slice_get c.args.records.now c.loop-i.i ≡ Some c.index-records-i.result =
    slice_get_read c.args.records.now (length c.args.records.now) c.loop-i.i c.index-records-i.result refl (omega arith) c.index-records-i.is in
    let here : MatchOption (Some c.in-Some.refused) (IsStep (choices c.args.judge.now.codes.now) (plan_of c.args.judge.now.claim) (take c.loop-i.i c.args.records.now) c.index-records-i.result)
    (IsFault (choices c.args.judge.now.codes.now) (plan_of c.args.judge.now.claim) (take c.loop-i.i c.args.records.now) c.index-records-i.result) =
    subst (λ o. MatchOption o (IsStep (choices c.args.judge.now.codes.now) (plan_of c.args.judge.now.claim) (take c.loop-i.i c.args.records.now) c.index-records-i.result)
    (IsFault (choices c.args.judge.now.codes.now) (plan_of c.args.judge.now.claim) (take c.loop-i.i c.args.records.now) c.index-records-i.result)) c.in-Some.is c.in_ok-refused.ensures.value in
    record { number = c.loop-i.i; entry = c.index-records-i.result; at = at; before = c.loop-i.invariant.steps; here = here }

pub loop-i-preserved : goal.loop-i-preserved
loop-i-preserved c =
    let at : slice_get c.args.records.now c.loop-i.i ≡ Some c.index-records-i.result =
    slice_get_read c.args.records.now (length c.args.records.now) c.loop-i.i c.index-records-i.result refl (omega arith) c.index-records-i.is in
    record {
      steps = steps_more _ _ _ _ _ c.loop-i.invariant.steps at (none_of c.in_ok-refused.field-0 _ _ c.in_default.not-Some c.in_ok-refused.ensures.value);
      told = c.in_ok-refused.ensures.told;
      kept = c.in_ok-refused.ensures.kept;
    }

pub loop-i-init : goal.loop-i-init
loop-i-init c = record {
  steps = λ i below. absurd (omega arith);
  told = c.in_ok-masks.ensures c.args.judge.now.codes.now;
  kept = c.new-passed.ensures c.args.judge.now.codes.now;
}

use Rattle.std.proofs.Common.{◌-◌, Some, sym, ap, subst, arith}
use Rattle.plan_rule.specs.Yards.{choices}
use Rattle.log_checker.specs.declared.cut.Cut.TheVariants.{Every, Nothing, Above}
use Rattle.log_checker.specs.Claims.{IsClaim, plan_of}
use Rattle.log_checker.specs.Cuts.{IsCut}
use Rattle.log_checker.proofs.CutLaws.{every_never, nothing_cut, every_above, above_cut}
use Rattle.log_checker.proofs.cut.cut_of.Goals as goal

pub returns-in_default : goal.returns-in_default
returns-in_default c =
    every_never (choices c.args.judge.now.codes.now) (plan_of c.args.judge.now.claim) c.args.side.now c.args.block c.in_default.ensures

pub returns-in_default-claim : goal.returns-in_default-claim
returns-in_default-claim c =
    subst (λ t. IsCut (choices c.args.judge.now.codes.now) t c.args.side.now c.args.block Nothing) (sym (ap plan_of c.in_default-claim.is))
    (nothing_cut (choices c.args.judge.now.codes.now) c.args.side.now c.args.block c.in-Some.rest c.in-Some.ensures)

pub first_tie-requires-clause-plan : goal.first_tie-requires-clause-plan
first_tie-requires-clause-plan c =
    let claimed : IsClaim (choices c.args.judge.now.codes.now) (Some c.in-Some-claim.claim) =
    subst (IsClaim (choices c.args.judge.now.codes.now)) c.in-Some-claim.is c.args.judge.now.claimed in
    claimed.0

pub returns-then-claim-rest : goal.returns-then-claim-rest
returns-then-claim-rest c =
    let claimed : IsClaim (choices c.args.judge.now.codes.now) (Some c.in-Some-claim.claim) =
    subst (IsClaim (choices c.args.judge.now.codes.now)) c.in-Some-claim.is c.args.judge.now.claimed in
    let same = claimed.1 in
    subst (λ t. IsCut (choices c.args.judge.now.codes.now) t c.args.side.now c.args.block Every) (sym (ap plan_of c.in-Some-claim.is))
    (every_above (choices c.args.judge.now.codes.now) c.in-Some-claim.claim.plan.now c.args.side.now c.args.block c.in-Some.rest c.in-Some.ensures (omega arith))

pub returns : goal.returns
returns c =
    let claimed : IsClaim (choices c.args.judge.now.codes.now) (Some c.in-Some-claim.claim) =
    subst (IsClaim (choices c.args.judge.now.codes.now)) c.in-Some-claim.is c.args.judge.now.claimed in
    let same = claimed.1 in
    subst (λ t. IsCut (choices c.args.judge.now.codes.now) t c.args.side.now c.args.block (Above (c.in-Some-claim.claim.total - c.in-Some.rest) c.first_tie.result))
    (sym (ap plan_of c.in-Some-claim.is))
    (above_cut (choices c.args.judge.now.codes.now) c.in-Some-claim.claim.plan.now c.args.side.now c.args.block c.in-Some.rest
    (c.in-Some-claim.claim.total - c.in-Some.rest) c.first_tie.result c.in-Some.ensures (omega arith) c.first_tie.ensures)

use Rattle.log_checker.proofs.FitLaws.{refutes_above}
use Rattle.log_checker.proofs.fit.fit_fault.Goals as goal

pub returns-in_default-clause-value : goal.returns-in_default-clause-value
returns-in_default-clause-value c =
    let (k, is, above) = c.in_default.ensures.value in (
      k,
      is,
      refutes_above c.args.judge.now.codes.now c.args.judge.now.claim c.args.side.now c.greatest.result k c.limits.ensures.limits c.args.judge.now.claimed c.greatest.ensures is above,
    )

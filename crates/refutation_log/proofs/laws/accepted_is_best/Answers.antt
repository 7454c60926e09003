use Rattle.refutation_log.proofs.AcceptedLaws.{accepted_of_yard}
use Rattle.refutation_log.proofs.laws.accepted_is_best.Goals as goal

pub returns : goal.returns
returns c = accepted_of_yard c.args.codes.now _ c.args.log.now c.limits.ensures.limits c.requires

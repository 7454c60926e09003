use Rattle.branch_kernel.proofs.KnownLaws.{known}
use Rattle.branch_kernel.proofs.known.choices_are_known.Goals as goal

pub returns : goal.returns
returns c = known c.args.codes.now c.limits.ensures.limits c.limits.ensures.few

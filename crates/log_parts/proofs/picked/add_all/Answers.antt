use Rattle.std.proofs.Common.{arith}
use Rattle.log_parts.proofs.PartLaws.{added_none, added_one}
use Rattle.log_parts.proofs.picked.add_all.Goals as goal

pub loop-number-init : goal.loop-number-init
loop-number-init c = added_none _

pub loop-number-preserved : goal.loop-number-preserved
loop-number-preserved c = added_one _ _ _ _ _ (omega arith) c.loop-number.invariant c.in_ok-add_one.ensures

use Rattle.std.proofs.Common.{arith}
use Rattle.plan_rule.specs.Yards.{choices}
use Rattle.log_merge.proofs.Boxes.{all_exacts, exact_list}
use Rattle.log_merge.proofs.merging.exact_side.Goals as goal

pub from_list-requires : goal.from_list-requires
from_list-requires c = exact_list (choices c.args.codes.now) _ _ c.requires (all_exacts (choices c.args.codes.now) _ _ _ c.loop-block.block (omega arith) c.loop-block.invariant)

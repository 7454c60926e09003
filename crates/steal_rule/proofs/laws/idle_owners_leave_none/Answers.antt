use Rattle.steal_rule.proofs.TakenLaws.{idle_leaves_none}
use Rattle.steal_rule.proofs.laws.idle_owners_leave_none.Goals as goal

pub returns : goal.returns
returns c = idle_leaves_none

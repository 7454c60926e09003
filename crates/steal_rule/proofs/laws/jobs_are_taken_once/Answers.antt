use Rattle.steal_rule.proofs.TakenLaws.{taken_once}
use Rattle.steal_rule.proofs.laws.jobs_are_taken_once.Goals as goal

pub returns : goal.returns
returns c = taken_once

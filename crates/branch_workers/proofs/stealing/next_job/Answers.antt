use Rattle.branch_workers.proofs.RoundLaws.{popped_next, stolen_next}
use Rattle.branch_workers.proofs.stealing.next_job.Goals as goal

pub returns-in-Some-clause-next : goal.returns-in-Some-clause-next
returns-in-Some-clause-next c = popped_next _ _ _ _ _ _ c.requires.pace c.in-Some.ensures.popped.2

pub returns-in-None-clause-next : goal.returns-in-None-clause-next
returns-in-None-clause-next c = stolen_next _ _ _ _ _ _ _ c.requires.pace c.in-None.ensures.popped c.try_each.ensures.same c.try_each.ensures.robbed c.try_each.ensures.steals c.try_each.ensures.each

use Rattle.std.proofs.Common.{◌≡◌, length, ◌-◌}
use Rattle.branch_workers.specs.Work.{IsSameOwner}
use Rattle.branch_workers.proofs.stealing.drain.Given as goal

abbrev pub invariant-loop : goal.invariant-loop
invariant-loop l = IsSameOwner l.initial.owner l.owner × (l.owner.pushed ≡ l.initial.owner.pushed)

abbrev pub decreases-loop : goal.decreases-loop
decreases-loop l = 64 - length l.owner.popped

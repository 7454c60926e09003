use Rattle.std.proofs.Common.{◌-◌}
use Rattle.plan_rule.specs.Yards.{choices}
use Rattle.branch_workers.specs.Work.{IsInHand}
use Rattle.branch_workers.proofs.working.halve.Given as goal

abbrev pub invariant-loop-part : goal.invariant-loop-part
invariant-loop-part l = IsInHand (choices l.codes) l.split l.fn.job l.initial.owner l.owner l.part

abbrev pub decreases-loop-part : goal.decreases-loop-part
decreases-loop-part l = l.split - l.part.length

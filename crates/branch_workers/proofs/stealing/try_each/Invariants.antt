use Rattle.branch_workers.specs.Work.{IsTried}
use Rattle.branch_workers.proofs.stealing.try_each.Given as goal

abbrev pub invariant-loop-i : goal.invariant-loop-i
invariant-loop-i l = IsTried l.initial.reaches l.reaches l.initial.left l.left l.i

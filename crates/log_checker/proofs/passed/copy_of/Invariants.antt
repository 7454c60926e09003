use Rattle.std.proofs.Common.{◌≤◌, length}
use Rattle.log_checker.proofs.passed.copy_of.Given as goal

abbrev pub invariant-loop-f : goal.invariant-loop-f
invariant-loop-f l = length l.copy.items ≤ l.f-index

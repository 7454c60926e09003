use Rattle.log_checker.proofs.exact.has.Given as goal

abbrev pub invariant-loop-f : goal.invariant-loop-f
invariant-loop-f l = Unit {0}

use Rattle.std.proofs.Common.{ℕ, ◌<◌, get_or}
use Rattle.log_checker.proofs.branch.tests.are_below.Given as goal

-- the first numbers are below the other
abbrev pub invariant-loop-k : goal.invariant-loop-k
invariant-loop-k l = (i d : ℕ) → i < l.k-index → get_or l.list i d < l.count

use Rattle.std.proofs.Common.{ℕ, ◌<◌, get_or}
use Rattle.std.specs.Prelude.{Contains}
use Rattle.log_checker.specs.declared.exact.Exact.{Exact}
use Rattle.log_checker.proofs.exact.are_in.Given as goal

-- the first of the list are among the others
abbrev pub invariant-loop-f : goal.invariant-loop-f
invariant-loop-f l = (k : ℕ) (d : Exact) → k < l.f-index → Contains l.others (get_or l.list k d)

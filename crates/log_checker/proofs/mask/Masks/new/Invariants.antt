use Rattle.std.proofs.Common.{All, IfSome}
use Rattle.shape_exact.specs.Yards.{PlainYard}
use Rattle.log_checker.specs.Masks.{IsTold}
use Rattle.log_checker.proofs.mask.Masks.new.Given as goal

-- nothing is kept
abbrev pub invariant-loop : goal.invariant-loop
invariant-loop l = (yard : PlainYard) → All (λ o. IfSome o (IsTold yard)) l.found.items

use Rattle.std.proofs.Common.{◌-◌}
use Rattle.log_checker.specs.Leasts.{IsLeastClearBelow}
use Rattle.log_checker.specs.Masks.{AreTold}
use Rattle.log_checker.proofs.free.least_free.Given as goal

-- the least of the codes so far
abbrev pub invariant-loop-code : goal.invariant-loop-code
invariant-loop-code l = record {
  least : IsLeastClearBelow l.codes l.exacts l.block l.code l.limit l.best;
  told : AreTold l.codes l.masks;
}

abbrev pub decreases-loop-code : goal.decreases-loop-code
decreases-loop-code l = l.count - l.code

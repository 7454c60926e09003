use Rattle.std.proofs.Common.{◌-◌}
use Rattle.log_checker.specs.Masks.{AreTold}
use Rattle.log_checker.specs.PassedCodes.{AreHinderedTo}
use Rattle.log_checker.proofs.free.first_clear.Given as goal

-- the codes so far are hindered, and what is kept of offsets is so
abbrev pub invariant-loop-code : goal.invariant-loop-code
invariant-loop-code l = record {
  hindered : AreHinderedTo l.codes l.exacts l.block l.code;
  told : AreTold l.codes l.masks;
}

abbrev pub decreases-loop-code : goal.decreases-loop-code
decreases-loop-code l = l.count - l.code

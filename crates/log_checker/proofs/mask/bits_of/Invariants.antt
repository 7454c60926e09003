use Rattle.std.proofs.Common.{◌-◌, ◌≤◌}
use Rattle.log_checker.proofs.MaskLaws.{TellFirst}
use Rattle.log_checker.proofs.mask.bits_of.Given as goal

-- the bits tell of the codes so far
abbrev pub invariant-loop-code : goal.invariant-loop-code
invariant-loop-code l = record {
  low : l.lo ≤ l.code;
  first : TellFirst l.codes l.one l.block l.stretch l.lo (l.code - l.lo) l.bits;
}

use Rattle.std.proofs.Common.{◌-◌, take}
use Rattle.log_checker.specs.Masks.{AreTold, TellClash}
use Rattle.log_checker.proofs.mask.Masks.part.Given as goal

-- the bits tell of the exact blocks so far
abbrev pub invariant-loop-f : goal.invariant-loop-f
invariant-loop-f l = record {
  told : AreTold l.codes l.self;
  clash : TellClash l.codes (take l.f-index l.exacts) l.block l.stretch l.lo (l.hi - l.lo) l.bits;
}

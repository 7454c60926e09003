use Rattle.std.proofs.Common.{◌+◌, ◌-◌, ◌*◌, ◌/◌, sym, subst, refl, arith}
use Rattle.std.proofs.lemmas.Bool.{false≢true}
use Rattle.std.proofs.lemmas.List.{take_all}
use Rattle.log_checker.specs.Masks.{AreTold, TellClash}
use Rattle.log_checker.proofs.MaskLaws.{clash_next, clash_none, clash_skip}
use Rattle.log_checker.proofs.mask.Masks.part.Goals as goal
use Rattle.log_checker.proofs.mask.Masks.part.Goals.{then-may_clash, else-may_clash}

pub loop-f-init : goal.loop-f-init
loop-f-init c = record {
  told = c.requires.told;
  clash = clash_none c.args.codes.now c.args.exacts.now c.args.block _ _ c.args.stretch;
}

pub loop-f-preserved : goal.loop-f-preserved
loop-f-preserved c = elim c.if-may_clash.branch [
  | then-may_clash w ↦ record {
    told = subst (AreTold c.args.codes.now) (sym w.self-is) w.tell-bits.ensures.told;
    clash = clash_next c.args.codes.now c.args.exacts.now c.args.block _ _ c.loop-f.f-index c.loop-f.bits w.tell-bits.result _ c.args.stretch _
        c.loop-f-test.true (c.requires.standing c.loop-f.f-index _ c.loop-f-test.true).block c.requires.block (w.if-may_clash.ensures.0 refl)
        c.loop-f.invariant.clash w.tell-bits.ensures.value w.bits-is;
  }
  | else-may_clash w ↦ record {
    told = subst (AreTold c.args.codes.now) (sym w.self-is) c.loop-f.invariant.told;
    clash = clash_skip c.args.codes.now c.args.exacts.now c.args.block _ _ c.loop-f.f-index c.loop-f.bits _ c.args.stretch _ c.loop-f-test.true
        (λ m. false≢true (w.if-may_clash.ensures.1 m)) c.loop-f.invariant.clash w.bits-is;
  }
]

pub returns-clause-part : goal.returns-clause-part
returns-clause-part c =
    let most = c.min-hi.ensures in record {
      from = omega arith;
      to = omega arith;
      few = omega arith;
      bits = subst (λ xs. TellClash c.args.codes.now xs c.args.block c.args.stretch (c.args.stretch.lo + (c.args.code - c.args.stretch.lo) / 64 * 64)
          (c.min-hi.result - (c.args.stretch.lo + (c.args.code - c.args.stretch.lo) / 64 * 64)) c.loop-f.bits)
          (take_all c.loop-f.f-index c.args.exacts.now c.loop-f-test.false) c.loop-f.invariant.clash;
    }

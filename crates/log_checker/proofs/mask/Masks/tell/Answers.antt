use Rattle.std.proofs.Common.{sym, ◌∙◌, arith}
use Rattle.log_checker.proofs.MaskLaws.{kept_here, same_beside, told_back}
use Rattle.log_checker.proofs.mask.Masks.tell.Goals as goal

pub returns-then-slot-len-clause-value : goal.returns-then-slot-len-clause-value
returns-then-slot-len-clause-value c =
    told_back c.args.codes.now c.args.one c.args.block c.args.lo c.args.hi c.args.stretch c.mask_of.result c.mask_of.ensures.of c.requires.from
    c.mask_of.ensures.told

pub returns-clause-value : goal.returns-clause-value
returns-clause-value c =
    told_back c.args.codes.now c.args.one c.args.block c.args.lo c.args.hi c.args.stretch c.in-Some.mask
    (same_beside c.in-Some.mask.of c.beside_of-of.result (sym c.eq.ensures ∙ c.if-eq.true) ∙ c.beside_of-of.ensures) c.requires.from
    (kept_here c.args.codes.now c.args.self.now.found.items c.slot-slot.result c.index.result.now c.in-Some.mask c.requires.told (omega arith)
    c.index.ensures c.in-Some.is)

pub returns-2-clause-value : goal.returns-2-clause-value
returns-2-clause-value c =
    told_back c.args.codes.now c.args.one c.args.block c.args.lo c.args.hi c.args.stretch c.mask_of-mask.result c.mask_of-mask.ensures.of
    c.requires.from c.mask_of-mask.ensures.told

use Rattle.log_checker.proofs.MaskLaws.{told_so}
use Rattle.log_checker.proofs.mask.mask_of.Goals as goal

pub returns-clause-told : goal.returns-clause-told
returns-clause-told c =
    told_so c.args.codes.now c.args.one c.args.block c.args.lo c.args.hi c.bits_of-bits.result c.args.stretch c.beside_of-of.result
    c.beside_of-of.ensures c.requires.from c.bits_of-bits.ensures

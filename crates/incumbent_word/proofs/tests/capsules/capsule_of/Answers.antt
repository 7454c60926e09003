use Rattle.std.proofs.Common.{arith, refl}
use Rattle.incumbent_word.proofs.PairLaws.{are_shut, shared_capsule}
use Rattle.incumbent_word.proofs.tests.capsules.capsule_of.Goals as goal

pub returns-clause-shareable : goal.returns-clause-shareable
returns-clause-shareable g c =
    let shut = are_shut c.args.codes.now _ _ _ _ c.requires (omega (arith, c.count.ensures.value, c.if-code-count.false)) (omega (arith, c.if-lo-hi.false)) (omega (arith, c.count-else-lo-hi.ensures.value, c.if-hi-count.false)) (c.if-not-are_shut.ensures refl) in
    shared_capsule _ _ _ _ _ _ _ _ shut c.log_of-log.ensures c.new.ensures.value c.in-Ok.is

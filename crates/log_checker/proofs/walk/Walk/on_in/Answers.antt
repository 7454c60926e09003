use Rattle.std.proofs.Common.{arith}
use Rattle.log_checker.proofs.WalkLaws.{hindered_to}
use Rattle.log_checker.proofs.walk.Walk.on_in.Goals as goal

pub loop-walk-preserved : goal.loop-walk-preserved
loop-walk-preserved c =
    let forward = c.loop-walk.invariant.forward in
    let from = c.on_from-walk.ensures.from in
    record {
      forward = omega arith;
      within = c.on_from-walk.ensures.within;
      passed = c.on_from-walk.ensures.passed;
      left = c.on_from-walk.ensures.left;
      skipped = hindered_to c.args.codes.now c.args.block c.args.exacts.now c.args.spans.now c.args.self.code c.loop-walk.walk.code
          c.on_from-walk.result.code c.loop-walk.invariant.skipped (c.is_hindered.ensures.0 c.if-not-is_hindered.false)
          (λ k more below. c.on_from-walk.ensures.skipped k (omega arith) (omega arith) below);
    }

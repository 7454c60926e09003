use Rattle.std.proofs.Common.{sym, subst, arith}
use Rattle.log_checker.specs.NearPieces.{AreNear}
use Rattle.log_checker.proofs.WalkLaws.{skipped_on}
use Rattle.log_checker.proofs.walk.Walk.to_clear.Goals as goal

pub on_in-walk-requires-clause-pieces : goal.on_in-walk-requires-clause-pieces
on_in-walk-requires-clause-pieces c =
    subst (AreNear c.args.codes.now c.args.stretch.place) (sym c.as_slice.ensures.value) c.pieces_near-pieces.ensures

pub returns-then-walk-end-clause-skipped : goal.returns-then-walk-end-clause-skipped
returns-then-walk-end-clause-skipped c =
    skipped_on c.args.codes.now c.args.exacts.now c.args.spans.now c.args.block c.args.self.code c.loop-walk.walk.code c.on_in-walk.result.code
    c.loop-walk.invariant.skipped c.on_in-walk.ensures.skipped

pub loop-walk-preserved : goal.loop-walk-preserved
loop-walk-preserved c =
    let forward = c.loop-walk.invariant.forward in
    let on = c.on_in-walk.ensures.forward in
    record {
      forward = omega arith;
      within = c.on_in-walk.ensures.within;
      passed = c.on_in-walk.ensures.passed;
      left = c.on_in-walk.ensures.left;
      told = c.part-part.ensures.told;
      skipped = skipped_on c.args.codes.now c.args.exacts.now c.args.spans.now c.args.block c.args.self.code c.loop-walk.walk.code
          c.on_in-walk.result.code c.loop-walk.invariant.skipped c.on_in-walk.ensures.skipped;
    }

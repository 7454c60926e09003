use Rattle.std.proofs.Common.{arith}
use Rattle.plan_rule.proofs.CountLaws.{block_exists}
use Rattle.log_checker.proofs.WalkLaws.{not_settled, settled_on, settled_to, stretch_taken}
use Rattle.log_checker.proofs.uncovered.first_uncovered.Goals as goal

pub returns-then-walk-kept-clause-value : goal.returns-then-walk-kept-clause-value
returns-then-walk-kept-clause-value c =
    let from = c.loop-walk.invariant.from in
    let forward = c.to_clear-walk.ensures.forward in
    let within = c.keeps-kept.ensures.within in
    let end = c.min-end.ensures in
    let below = c.if-walk-kept.true in
    let lo = c.stretch-stretch.ensures.from in
    let past = settled_to c.args.codes.now c.args.block c.args.cut c.args.exacts.now c.args.spans.now c.args.lo c.args.hi c.loop-walk.walk.code
    c.to_clear-walk.result.code c.loop-walk.invariant.settled c.to_clear-walk.ensures.skipped in
    let taken = stretch_taken c.args.codes.now c.args.block c.cost_at.result c.keeps-kept.result c.min-end.result c.args.cut
    c.stretch-stretch.result (block_exists _ _ c.requires.block) c.stretch-stretch.ensures.stretch (omega arith) c.cost_at.ensures
    c.keeps-kept.ensures.taken in
    record {
      from = omega arith;
      below = omega arith;
      before = λ k low high. past k low high (omega arith);
      here = not_settled c.args.codes.now c.args.block c.args.cut c.args.exacts.now c.args.spans.now c.to_clear-walk.result.code c.keeps-kept.result
          below (taken c.to_clear-walk.result.code (omega arith) (omega arith)) c.to_clear-walk.ensures.left (c.to_clear-walk.ensures.clear below);
    }

pub loop-walk-preserved : goal.loop-walk-preserved
loop-walk-preserved c =
    let from = c.loop-walk.invariant.from in
    let forward = c.to_clear-walk.ensures.forward in
    let onward = c.on_from-walk-in-loop-walk.ensures.forward in
    let within = c.keeps-kept.ensures.within in
    let end = c.min-end.ensures in
    let kept = c.if-walk-kept.false in
    let lo = c.stretch-stretch.ensures.from in
    let past = settled_to c.args.codes.now c.args.block c.args.cut c.args.exacts.now c.args.spans.now c.args.lo c.args.hi c.loop-walk.walk.code
    c.to_clear-walk.result.code c.loop-walk.invariant.settled c.to_clear-walk.ensures.skipped in
    let taken = stretch_taken c.args.codes.now c.args.block c.cost_at.result c.keeps-kept.result c.min-end.result c.args.cut
    c.stretch-stretch.result (block_exists _ _ c.requires.block) c.stretch-stretch.ensures.stretch (omega arith) c.cost_at.ensures
    c.keeps-kept.ensures.taken in
    record {
      from = omega arith;
      told = c.to_clear-walk.ensures.told;
      settled = settled_on c.args.codes.now c.args.block c.args.cut c.args.exacts.now c.args.spans.now c.args.lo c.args.hi
          c.loop-walk.walk.code c.to_clear-walk.result.code c.keeps-kept.result c.min-end.result c.on_from-walk-in-loop-walk.result.code
          forward (omega arith) past (λ k low high. taken k (omega arith) high) c.on_from-walk-in-loop-walk.ensures.skipped;
      within = c.on_from-walk-in-loop-walk.ensures.within;
      passed = c.on_from-walk-in-loop-walk.ensures.passed;
      left = c.on_from-walk-in-loop-walk.ensures.left;
    }

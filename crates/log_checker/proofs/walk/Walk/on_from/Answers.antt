use Rattle.std.proofs.Common.{arith}
use Rattle.log_checker.proofs.WalkLaws.{passed_more, skipped_more, in_none}
use Rattle.log_checker.proofs.walk.Walk.on_from.Goals as goal

pub loop-passed-preserved : goal.loop-passed-preserved
loop-passed-preserved c =
    let test = c.loop-passed-test.true in
    let forward = c.loop-passed.invariant.forward in
    let from = c.loop-passed.invariant.from in
    let grows = c.max-code-in-loop-passed.ensures in record {
      within = omega arith;
      passed = passed_more c.args.spans.now c.loop-passed.passed c.loop-passed.code c.max-code-in-loop-passed.result _ test grows
          c.loop-passed.invariant.passed;
      forward = omega arith;
      from = omega arith;
      skipped = skipped_more c.args.spans.now _ c.loop-passed.passed c.loop-passed.code c.max-code-in-loop-passed.result _ test
          c.if-spans-passed.true grows c.loop-passed.invariant.skipped;
    }

pub returns-else-spans-passed-clause-left : goal.returns-else-spans-passed-clause-left
returns-else-spans-passed-clause-left c =
    in_none c.args.spans.now c.loop-passed.passed c.loop-passed.code _ c.requires.ascending c.loop-passed-test.true c.if-spans-passed.false
    c.loop-passed.invariant.passed

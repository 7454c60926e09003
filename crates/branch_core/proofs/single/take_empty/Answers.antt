use Rattle.plan_rule.specs.Yards.{choices}
use Rattle.branch_core.proofs.EmptyLaws.{empty_written}
use Rattle.branch_core.proofs.single.take_empty.Goals as goal

pub returns-clause-written : goal.returns-clause-written
returns-clause-written c =
    let (b, below, exists, none) = c.loop-block.invariant in
    empty_written (choices c.args.codes.now) c.loop-block.block b _ _ _ c.in_ok-side.side c.new-2.result.items c.count_of.result below exists c.count_of.ensures.value c.loop-block-test.false
    c.in_ok-side.ensures c.new-2.ensures.items c.in_ok-number.ensures

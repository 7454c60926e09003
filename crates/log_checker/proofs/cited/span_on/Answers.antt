use Rattle.plan_rule.specs.Yards.{choices}
use Rattle.log_checker.proofs.SpanLaws.{no_literal_span, one_literal_span}
use Rattle.log_checker.proofs.cited.span_on.Goals as goal

pub returns-then-l-block : goal.returns-then-l-block
returns-then-l-block c = λ code is.
    one_literal_span c.args.outer.now c.literals-l-items.result.now c.args.block c.loop-l.l-index _ c.literals-l-items.ensures.value
    c.literals-l-items.ensures.ordered.ascending c.loop-l-test.true c.if-l-block.true code

pub returns : goal.returns
returns c =
    no_literal_span (choices c.args.codes.now) c.args.outer.now c.literals-l-items.result.now c.args.block c.loop-l.l-index c.count_of.result
    c.literals-l-items.ensures.value c.loop-l-test.false c.loop-l.invariant c.count_of.ensures

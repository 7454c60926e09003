use Rattle.plan_rule.specs.Yards.{choices}
use Rattle.log_checker.proofs.CiteLaws.{cited_next, all_cited}
use Rattle.log_checker.proofs.cited.spans_of.Goals as goal

pub loop-cite-preserved : goal.loop-cite-preserved
loop-cite-preserved c =
    cited_next (choices c.args.codes.now) c.args.earlier.now c.args.cites.now c.list-cite-items.result.now c.args.side.now c.args.block
    c.loop-cite.spans.items c.add_span.new.spans.items c.loop-cite.cite-index c.index-earlier-cite.result c.covered.result
    c.list-cite-items.ensures.value c.requires.cites c.loop-cite-test.true c.index-earlier-cite.is c.covered.ensures c.in_ok-add_span.ensures
    c.loop-cite.invariant

pub returns-clause-cited : goal.returns-clause-cited
returns-clause-cited c =
    all_cited (choices c.args.codes.now) c.args.earlier.now c.args.cites.now c.list-cite-items.result.now c.args.side.now c.args.block
    c.loop-cite.cite-index c.loop-cite.spans.items c.in_order.result.items c.list-cite-items.ensures.value c.loop-cite-test.false
    c.in_order.ensures.same c.loop-cite.invariant

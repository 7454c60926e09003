use Rattle.std.proofs.Common.{sym, subst}
use Rattle.std.specs.List.{All}
use Rattle.std.proofs.lemmas.List.Elements.{All-push}
use Rattle.branch_search.specs.Segments.{IsSegment}
use Rattle.branch_search.proofs.order.children_of.Goals as goal

pub loop-code-preserved-in-Continue-1 : goal.loop-code-preserved-in-Continue-1
loop-code-preserved-in-Continue-1 c = subst (All (IsSegment c.args.range)) (sym c.in_ok-push.ensures.items)
    (All-push (IsSegment c.args.range) c.loop-code.list.items c.segment_at.result c.loop-code.invariant c.segment_at.ensures.segment)

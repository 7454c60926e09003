use Rattle.std.specs.Prelude.{All}
use Rattle.branch_search.specs.Segments.{IsSegment}
use Rattle.branch_search.proofs.order.children_of.Given as goal

-- the codes so far are segments of the range
abbrev pub invariant-loop-code : goal.invariant-loop-code
invariant-loop-code l = All (IsSegment l.range) l.list.items

use Rattle.std.proofs.Common.{ℕ, ◌<◌, ◌≤◌}
use Rattle.std.specs.Prelude.{All, Contains}
use Rattle.plan_rule.specs.declared.literal.Literal.{Literal}
use Rattle.branch_search.specs.Segments.{IsSegment}
use Rattle.branch_search.proofs.order.add_others.Given as goal

-- the codes before this one are in a segment of the list, and nothing was added that is no segment of the range
abbrev pub invariant-loop-code : goal.invariant-loop-code
invariant-loop-code l = record {
  inside : All (IsSegment l.fn.range) l.initial.list.items → All (IsSegment l.fn.range) l.list.items;
  each : (code : ℕ) → l.fn.range.lo ≤ code → code < l.code
      → (segment : Literal) × Contains l.list.items segment × (segment.lo ≤ code) × (code < segment.hi);
}

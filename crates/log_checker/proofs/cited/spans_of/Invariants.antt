use Rattle.std.proofs.Common.{take}
use Rattle.plan_rule.specs.Yards.{choices}
use Rattle.log_checker.specs.Spans.{AreCited}
use Rattle.log_checker.proofs.cited.spans_of.Given as goal

-- the spans of the first citations
abbrev pub invariant-loop-cite : goal.invariant-loop-cite
invariant-loop-cite l = AreCited (choices l.codes) l.earlier (take l.cite-index l.cite-items) l.side l.block l.spans.items

use Rattle.std.proofs.Common.{◌≡◌}
use Rattle.plan_rule.specs.Yards.{choices}
use Rattle.tardiness_bounds.proofs.SameLaws.{AreExacts}
use Rattle.tardiness_bounds.proofs.frontier.Frontier.of.Given as goal

-- the exact literals so far were pushed
abbrev pub invariant-loop-l : goal.invariant-loop-l
invariant-loop-l l = record {
  yard : l.frontier.yard ≡ l.fn.tables.yard;
  exacts : AreExacts (choices l.fn.tables.yard) l.part l.l-index l.frontier.literals;
}

use Rattle.std.proofs.Common.{◌*◌, ◌≤◌}
use Rattle.plan_rule.specs.Bounds.{IsSumOfLeast, MayFit}
use Rattle.plan_rule.specs.Yards.{choices}
use Rattle.tardiness_bounds.specs.Standings.{literals_of}
use Rattle.tardiness_bounds.proofs.frontier.sum_of.Given as goal

-- the sum so far, and how large it is at most
abbrev pub invariant-loop-block : goal.invariant-loop-block
invariant-loop-block l = record {
  value : IsSumOfLeast (MayFit (choices l.tables.yard) (literals_of l.list)) (choices l.tables.yard).cost l.block l.sum;
  limit : l.sum ≤ 400000 * l.block;
}

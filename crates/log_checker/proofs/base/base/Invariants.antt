use Rattle.std.proofs.Common.{◌*◌, ◌≤◌}
use Rattle.plan_rule.specs.Bounds.{IsSumOfLeast, MayTake}
use Rattle.plan_rule.specs.Yards.{choices}
use Rattle.log_checker.proofs.base.base.Given as goal

-- the sum so far, and how large it is at most
abbrev pub invariant-loop-block : goal.invariant-loop-block
invariant-loop-block l = record {
  value : IsSumOfLeast (MayTake (choices l.codes) l.side) (choices l.codes).cost l.block l.sum;
  limit : l.sum ≤ 400000 * l.block;
}

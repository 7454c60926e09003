use Rattle.std.proofs.Common.{◌≡◌, ◌*◌, ◌≤◌}
use Rattle.common_lists.specs.Each.{sum_below}
use Rattle.plan_rule.specs.Choices.{count}
use Rattle.plan_rule.specs.Yards.{choices}
use Rattle.scheduler_run.proofs.load_command.count_placements.Given as goal

-- the sum so far, and how large it is at most
abbrev pub invariant-loop-block : goal.invariant-loop-block
invariant-loop-block l = record {
  value : l.sum ≡ sum_below l.block (count (choices l.codes));
  limit : l.sum ≤ 1048576 * l.block;
}

use Rattle.std.proofs.Common.{◌≡◌, ◌*◌, ◌^◌, ◌≤◌}
use Rattle.common_lists.specs.Each.{sum_below}
use Rattle.plan_rule.specs.Yards.{choices}
use Rattle.log_checker.specs.Windows.{work_in}
use Rattle.log_checker.proofs.window.demand.Given as goal

-- the sum so far, and how large it is at most
abbrev pub invariant-loop-block : goal.invariant-loop-block
invariant-loop-block l = record {
  value : l.sum ≡ sum_below l.block (work_in (choices l.codes) l.side l.window.from l.window.to);
  limit : l.sum ≤ 2 ^ 48 * l.block;
}

use Rattle.std.proofs.Common.{◌≡◌, ◌+◌, ◌*◌, ◌^◌, ◌≤◌}
use Rattle.common_lists.specs.Each.{sum_below}
use Rattle.plan_rule.specs.Yards.{choices}
use Rattle.log_checker.specs.Windows.{used_by}
use Rattle.log_checker.proofs.window.used.Given as goal

-- the sum so far, and how large it is at most
abbrev pub invariant-loop-block : goal.invariant-loop-block
invariant-loop-block l = record {
  value : l.sum ≡ (choices l.codes).standing l.window.from l.window.to + sum_below l.block (used_by (choices l.codes) l.side l.window.from l.window.to);
  limit : l.sum ≤ 2 ^ 55 + 2 ^ 48 * l.block;
}

use Rattle.std.proofs.Common.{◌≡◌, ◌*◌, ◌≤◌}
use Rattle.common_lists.specs.Each.{sum_below}
use Rattle.plan_rule.specs.Plans.{code_of}
use Rattle.plan_rule.specs.Yards.{choices}
use Rattle.plan_rule.proofs.order.total.Given as goal

-- the sum so far, and how large it is at most
abbrev pub invariant-loop-block : goal.invariant-loop-block
invariant-loop-block l = record {
  value : l.sum ≡ sum_below l.block (λ b. (choices l.codes).cost b (code_of l.plan b));
  limit : l.sum ≤ 400000 * l.block;
}

use Rattle.std.proofs.Common.{◌*◌, ◌≤◌}
use Rattle.plan_rule.specs.Yards.{choices}
use Rattle.log_checker.proofs.RestLaws.{SumsBeside}
use Rattle.log_checker.proofs.rest.rest_of.Given as goal

-- the sum over the blocks so far, and how large it is at most
abbrev pub invariant-loop-other : goal.invariant-loop-other
invariant-loop-other l = record {
  beside : SumsBeside (choices l.codes) l.side l.block l.other l.sum;
  small : l.sum ≤ 400000 * l.other;
}

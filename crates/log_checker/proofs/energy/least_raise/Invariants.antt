use Rattle.std.proofs.Common.{◌^◌, ◌<◌}
use Rattle.std.specs.Prelude.{IfSome}
use Rattle.plan_rule.specs.Yards.{choices}
use Rattle.log_checker.specs.Windows.{IsLeastRaiseBelow}
use Rattle.log_checker.proofs.energy.least_raise.Given as goal

-- the least raise of the blocks so far
abbrev pub invariant-loop-block : goal.invariant-loop-block
invariant-loop-block l = record {
  value : IsLeastRaiseBelow (choices l.codes) l.side l.window.from l.window.to l.block l.least;
  few : IfSome l.least (λ v. v < 2 ^ 31);
}

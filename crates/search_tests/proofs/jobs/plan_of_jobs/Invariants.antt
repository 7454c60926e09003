use Rattle.std.proofs.Common.{◌≡◌, []}
use Rattle.std.specs.Prelude.{IfSome}
use Rattle.plan_rule.specs.Plans.{IsPlan}
use Rattle.plan_rule.specs.Reports.{IsBar}
use Rattle.plan_rule.specs.Yards.{choices}
use Rattle.branch_kernel.specs.Stored.{IsStored}
use Rattle.search_tests.proofs.jobs.plan_of_jobs.Given as goal

-- what the searches so far have left, and the first of their plans
abbrev pub invariant-loop-number : goal.invariant-loop-number
invariant-loop-number l = record {
  yard : l.bars.yard ≡ l.codes;
  bar : IsBar (choices l.codes) l.bars.bar;
  depth : l.store.prefix ≡ [];
  stored : IsStored (choices l.codes) l.log l.store.nogoods;
  plan : IfSome l.best (IsPlan (choices l.codes));
}

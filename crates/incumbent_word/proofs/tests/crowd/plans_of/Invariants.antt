use Rattle.std.proofs.Common.{All}
use Rattle.plan_rule.specs.Plans.{IsFeasible}
use Rattle.plan_rule.specs.Yards.{choices}
use Rattle.incumbent_word.proofs.tests.crowd.plans_of.Given as goal

-- the plans so far are feasible
abbrev pub invariant-loop-first : goal.invariant-loop-first
invariant-loop-first g l = All (IsFeasible (choices l.codes)) l.plans.items
